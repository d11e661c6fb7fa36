-- A tick.
use Rattle.std.proofs.Common.{◌≡◌, ℕ, ◌+◌, ◌-◌, ◌^◌, ◌≤◌, inl, inr, Bool, true, false, true≢false, List, Result, Ok, Err, refl, ap, sym, subst, ◌∙◌, arith}
use Rattle.std.specs.Prelude.{Option, Some, None, if◌then◌else◌, not, ◌&&◌, ◌||◌, nat_lt, nat_le, ◌==◌, slice_set}
use Rattle.std.proofs.lemmas.Bool.{lt-ltb, ltb-false}
use Rattle.paxos_wire.specs.declared.limits.TheConstants.{SLOTS}
use Rattle.paxos_wire.specs.declared.ballot.Ballot.{Ballot}
use Rattle.paxos_wire.specs.declared.entry.Entry.{Entry}
use Rattle.slot_log.specs.Slots.{front}
use Rattle.learner.specs.Learning.{Learned}
use Rattle.promise_store.specs.declared.disk.Disk.{Ghosts}
use Rattle.promise_store.specs.Keeping.{Keeps, Leaves, LeavesDuring}
use Rattle.protocol_model.specs.Stores.{Store, promised}
use Rattle.proposer.specs.declared.accept_run.AcceptRun.{AcceptRun}
use Rattle.proposer.specs.declared.campaign.Campaign.{Campaign}
use Rattle.proposer.specs.declared.fault.ProposeFault.{ProposeFault}
use Rattle.paxos_wire.specs.Order.{is_below}
use Rattle.proposer.specs.Campaigns.{next_ballot, new_campaign, is_counted, has_quorum, is_covered, is_proposed}
use Rattle.proposer.specs.CommandRuns.{commands_at, accept_run_of, with_marks}
use Rattle.proposer.specs.declared.fault.ProposeFault.TheVariants.{OutOfWindow}
use Rattle.proposer.proofs.Alone.{one_promise_leads_not}
use Rattle.acceptor.specs.declared.answers.PrepareAnswer.{PrepareAnswer}
use Rattle.acceptor.specs.declared.answers.PrepareAnswer.TheVariants.{Promise}
use Rattle.acceptor.specs.Answers.{answer_to_prepare, prepared as stores_prepared}
use Rattle.acceptor.specs.Stored.{store_of}
use Rattle.node_rules.specs.Standings.{Place, Standing, front_of, idle}
use Rattle.node_rules.specs.Turns.{Turn, Refusal, Spent, still, joined, behind, and_then}
use Rattle.protocol_model.specs.Votes.{told_by}
use Rattle.node_rules.specs.Proposing.{higher, greatest_seen, is_over, is_spent, prepared, beginning, ticking, closing, closing_by, own_value}
use Rattle.dealer_node.specs.declared.up.Up.{Up}
use Rattle.dealer_node.specs.declared.running.Running.{Running}
use Rattle.dealer_node.specs.Outs.{Told}
use Rattle.dealer_node.specs.Members.{Membership, IsMember, place_at}
use Rattle.dealer_node.specs.Running.{IsRunning, IsTaken, is_spent_at}
use Rattle.dealer_node.specs.Working.{head_of, disk_under, IsDone, IsUp, Took, Failed, Works}
use Rattle.dealer_node.specs.declared.fault.NodeFault.{NodeFault}
use Rattle.paxos_wire.specs.declared.message.Message.TheVariants as frame
use Rattle.dealer_kind.proofs.Counts.{three_nodes}
use Rattle.dealer_node.proofs.Still.{told_to_none}
use Rattle.dealer_node.proofs.Worked.{nothing_more, then_works}
use Rattle.dealer_node.proofs.Stored.{answered_prepare, prepared_by}

-- ---- one promise is no quorum, so the close of a call that began a ballot does nothing

unled_by : (place : Place) (s : Standing) (campaign : Campaign) (quorum full : Bool) (rest : Result (Option AcceptRun) ProposeFault) → s.campaign ≡ Some campaign → quorum ≡ false
    → (let after : Standing = record s { campaign = Some (with_marks campaign (if not quorum then Ok None else rest)) } in
    if quorum && full then Ok (still (idle s)) else closing_by place (if not quorum then Ok None else rest) after) ≡ Ok (still s)
unled_by place s campaign true full rest is e = absurd (true≢false e)
unled_by place s campaign false full rest is e = ap (λ (c : Option Campaign). Ok (still (record s { campaign = c }))) (sym is)

pub unled : (member : Membership) (ballot : Ballot) (s : Standing) → IsMember member → closing (place_at member) (beginning (place_at member) ballot s).after ≡ Ok (still (beginning (place_at member) ballot s).after)
unled member ballot s is =
    let after : Standing = (beginning (place_at member) ballot s).after in
    let campaign : Campaign = prepared (place_at member) ballot s in
    let none : has_quorum member.nodes campaign ≡ false =
    one_promise_leads_not member.nodes member.node ballot ballot (front_of s) (front_of s) (told_by s.store (front_of s)) (three_nodes member.nodes is.nodes) in
    unled_by (place_at member) after campaign (has_quorum member.nodes campaign) (nat_le SLOTS (front_of after))
    (if not (is_covered campaign.first (front_of after)) then Err OutOfWindow else if is_proposed campaign (front_of after) then Ok None
    else Ok (accept_run_of campaign (front_of after) (commands_at member.nodes campaign (front_of after) (own_value (place_at member) after)))) refl none

-- ---- the ballot is above what was promised

above_by : (below : Bool) (a b : Ballot) → is_below a b ≡ below → b.round ≤ (if below then b else a).round
above_by true a b e = omega arith
above_by false a b e = no_less (nat_lt a.round b.round) refl e
  where
    no_less : (less : Bool) → nat_lt a.round b.round ≡ less → (if less then true else if a.round == b.round then nat_lt a.node b.node else false) ≡ false → b.round ≤ a.round
    no_less true l e = absurd (true≢false e)
    no_less false l e = ltb-false a.round b.round l

pub next_above : (node : ℕ) (seen promise : Ballot) → is_below promise (next_ballot node (higher seen promise)) ≡ true
next_above node seen promise =
    let most : promise.round ≤ (higher seen promise).round = above_by (is_below seen promise) seen promise refl in
    let less : nat_lt promise.round ((higher seen promise).round + 1) ≡ true = lt-ltb _ _ (omega arith) in
    ap (λ (b : Bool). if b then true else if promise.round == (higher seen promise).round + 1 then nat_lt promise.node node else false) less

-- ---- what a tick comes to

spent_same : (member : Membership) (running : Running) (s : Standing) (promise : Ballot) → IsRunning member running s → promise ≡ s.store.promise → is_spent_at running promise ≡ is_spent s
spent_same member running s promise is same =
    ap (λ (b : Ballot). (higher b promise).round == 2 ^ 32 - 1 || nat_le SLOTS (front running.learner.learned.log)) is.greatest
    ∙ ap (λ (b : Ballot). (higher s.seen b).round == 2 ^ 32 - 1 || nat_le SLOTS (front running.learner.learned.log)) same
    ∙ ap (λ (l : Learned). (higher s.seen s.store.promise).round == 2 ^ 32 - 1 || nat_le SLOTS (front l.log)) is.learned

ballot_same : (member : Membership) (running : Running) (s : Standing) (promise : Ballot) → IsRunning member running s → promise ≡ s.store.promise
    → next_ballot member.node (higher running.seen promise) ≡ next_ballot member.node (greatest_seen s)
ballot_same member running s promise is same =
    ap (λ (b : Ballot). next_ballot member.node (higher b promise)) is.greatest ∙ ap (λ (b : Ballot). next_ballot member.node (higher s.seen b)) same

begins : (member : Membership) (s : Standing) (over spent : Bool) → over ≡ false → spent ≡ false
    → (if over then Ok (still s) else if spent then Err Spent else Ok (beginning (place_at member) (next_ballot member.node (greatest_seen s)) s)) ≡ Ok (beginning (place_at member) (next_ballot member.node (greatest_seen s)) s)
begins member s true spent a b = absurd (true≢false a)
begins member s false true a b = absurd (true≢false b)
begins member s false false a b = refl

pub tick_begins : (member : Membership) (running : Running) (s : Standing) (promise : Ballot) → IsRunning member running s → promise ≡ s.store.promise → is_over (place_at member) s ≡ false → is_spent_at running promise ≡ false
    → ticking (place_at member) s ≡ Ok (beginning (place_at member) (next_ballot member.node (higher running.seen promise)) s)
tick_begins member running s promise is same over unspent =
    begins member s (is_over (place_at member) s) (is_spent s) over (sym (spent_same member running s promise is same) ∙ unspent)
    ∙ ap (λ (b : Ballot). Ok (beginning (place_at member) b s)) (sym (ballot_same member running s promise is same))

pub next_is_above : (member : Membership) (running : Running) (s : Standing) (promise : Ballot) → promise ≡ s.store.promise → is_below s.store.promise (next_ballot member.node (higher running.seen promise)) ≡ true
next_is_above member running s promise same =
    ap (λ (b : Ballot). is_below s.store.promise (next_ballot member.node (higher running.seen b))) same ∙ next_above member.node running.seen s.store.promise

answered_by : (below : Bool) (ballot : Ballot) (slot first : ℕ) (store : Store) → below ≡ true → slot ≡ first → answered_prepare below ballot slot store ≡ Promise ballot slot (told_by store first)
answered_by false ballot slot first store e here = absurd (true≢false (sym e))
answered_by true ballot slot first store e here = ap (λ (s : ℕ). Promise ballot slot (told_by store s)) here

pub is_promised : (ballot : Ballot) (slot first : ℕ) (store : Store) (answer : PrepareAnswer) → is_below store.promise ballot ≡ true → slot ≡ first → answer ≡ answer_to_prepare ballot slot store
    → answer ≡ Promise ballot slot (told_by store first)
is_promised ballot slot first store answer above here given = given ∙ answered_by (is_below store.promise ballot) ballot slot first store above here

stored_by : (below : Bool) (ballot : Ballot) (store : Store) → below ≡ true → prepared_by below ballot store ≡ promised store ballot
stored_by false ballot store e = absurd (true≢false (sym e))
stored_by true ballot store e = refl

pub is_stored : (ballot : Ballot) (store : Store) → is_below store.promise ballot ≡ true → stores_prepared ballot store ≡ promised store ballot
is_stored ballot store above = stored_by (is_below store.promise ballot) ballot store above

-- a promise that is counted leaves the campaign's ballot
counted_ballot : (counts : Bool) (campaign : Campaign) (node : ℕ) (told : List Entry)
    → (if counts then record campaign { promises = slice_set campaign.promises node (Some told) } else campaign).ballot ≡ campaign.ballot
counted_ballot true campaign node told = refl
counted_ballot false campaign node told = refl

module _ {D : Type 0} (g : Ghosts D) where
  pub begin_took : (member : Membership) (s : Standing) (ballot : Ballot) (old new : Up D) (told later : Told) → IsMember member → IsUp g member old s
      → ticking (place_at member) s ≡ Ok (beginning (place_at member) ballot s) → is_below s.store.promise ballot ≡ true
      → Keeps g (head_of member) (stores_prepared ballot s.store) (store_of new.acceptor)
      → LeavesDuring g (head_of member) s.store (stores_prepared ballot s.store) (disk_under old) (disk_under new)
      → IsTaken member new.running told later (beginning (place_at member) ballot s)
      → Took g member s (and_then (ticking (place_at member) s) (closing (place_at member))) old new told later
  begin_took member s ballot old new told later is_member is rule above keeps during taken =
      let turn : Turn = beginning (place_at member) ballot s in
      let stores = is_stored ballot s.store above in
      let there : IsUp g member new turn.after = record {
        running = taken.runs;
        keeps = subst (λ (st : Store). Keeps g (head_of member) st (store_of new.acceptor)) stores keeps;
        unbegun = refl;
        stands = counted_ballot (is_counted member.nodes (new_campaign ballot (front_of s)) member.node ballot (front_of s)) (new_campaign ballot (front_of s)) member.node (told_by s.store (front_of s));
      } in
      let first : Took g member s (ticking (place_at member) s) old new told later = record {
        turn = turn;
        rule = rule;
        now = there;
        told = taken.told;
        fits = taken.fits;
        moments = subst (λ (st : Store). LeavesDuring g (head_of member) s.store st (disk_under old) (disk_under new)) stores during;
        untouched = λ still. absurd (told_to_none member.nodes member.node (frame.Prepare ballot (front_of s)) (let three = three_nodes member.nodes is_member.nodes in omega arith) (λ e. e) still);
      } in
      let closes = unled member ballot s is_member in
      let second : Took g member turn.after (closing (place_at member) turn.after) new new later later = record {
        turn = still turn.after;
        rule = closes;
        now = there;
        told = nothing_more later turn.after;
        fits = λ one at. absurd at;
        moments = λ t image was. inl was;
        untouched = λ still. refl;
      } in
      then_works g member s (closing (place_at member)) (ticking (place_at member) s) old new new told later later (Ok tt) first (inr (still turn.after, closes, refl, refl)) second

  pub begin_failed : (member : Membership) (s : Standing) (ballot : Ballot) (old new : Up D) → IsMember member
      → ticking (place_at member) s ≡ Ok (beginning (place_at member) ballot s) → is_below s.store.promise ballot ≡ true
      → Leaves g (head_of member) s.store (stores_prepared ballot s.store) (disk_under new)
      → LeavesDuring g (head_of member) s.store (stores_prepared ballot s.store) (disk_under old) (disk_under new)
      → Failed g member s (and_then (ticking (place_at member) s) (closing (place_at member))) old new
  begin_failed member s ballot old new is_member rule above leaves during =
      let turn : Turn = beginning (place_at member) ballot s in
      record {
        left = stores_prepared ballot s.store;
        comes = inr (inl (joined turn (still turn.after), ap (λ (o : Result Turn Refusal). and_then o (closing (place_at member))) rule ∙ ap (behind turn) (unled member ballot s is_member), is_stored ballot s.store above));
        done = subst IsDone (sym (ap (λ (o : Result Turn Refusal). and_then o (closing (place_at member))) rule ∙ ap (behind turn) (unled member ballot s is_member))) tt;
        leaves = leaves;
        moments = during;
      }

  -- a tick after the match's end does nothing
  pub over_works : (member : Membership) (s : Standing) (old new : Up D) (told later : Told) (answer : Result (Unit {0}) NodeFault) → IsUp g member old s → is_over (place_at member) s ≡ true
      → Works g member s (closing (place_at member) s) old new told later answer
      → Works g member s (and_then (ticking (place_at member) s) (closing (place_at member))) old new told later answer
  over_works member s old new told later answer is over works =
      let first : Took g member s (ticking (place_at member) s) old old told told = record {
        turn = still s;
        rule = ap (λ (b : Bool). if b then Ok (still s) else if is_spent s then Err Spent else Ok (beginning (place_at member) (next_ballot member.node (greatest_seen s)) s)) over;
        now = is;
        told = nothing_more told s;
        fits = λ one at. absurd at;
        moments = λ t image was. inl was;
        untouched = λ still. refl;
      } in
      then_works g member s (closing (place_at member)) (ticking (place_at member) s) old old new told told later answer first (inl refl) works

-- no ballot or no slot is left
spends : (member : Membership) (s : Standing) (over spent : Bool) → over ≡ false → spent ≡ true
    → (if over then Ok (still s) else if spent then Err Spent else Ok (beginning (place_at member) (next_ballot member.node (greatest_seen s)) s)) ≡ Err Spent
spends member s true spent a b = absurd (true≢false a)
spends member s false true a b = refl
spends member s false false a b = absurd (true≢false (sym b))
