-- What a node stores: promises and votes, as the rules have them.
use Rattle.std.proofs.Common.{◌≡◌, ℕ, ◌≤◌, inl, inr, Bool, true, false, List, ◌++◌, Result, Ok, Err, refl, ap, sym, subst, ◌∙◌, arith, true≢false}
use Rattle.std.proofs.lemmas.Option.{same_Some}
use Rattle.std.specs.Prelude.{◌⊎◌, Option, Some, None, IfSome, MatchResult, map, if◌then◌else◌, nat_lt, ◌==◌}
use Rattle.std.proofs.lemmas.Bool.{le-ltb, eq-eqb}
use Rattle.paxos_wire.specs.declared.ballot.Ballot.{Ballot}
use Rattle.paxos_wire.specs.declared.message.Message.TheVariants as frame
use Rattle.slot_log.specs.declared.command.Command.{Command}
use Rattle.slot_log.specs.declared.slot_fault.SlotFault.{SlotFault}
use Rattle.promise_store.specs.declared.disk.Disk.{Ghosts}
use Rattle.promise_store.specs.declared.store.Store.{Store as Kept}
use Rattle.promise_store.specs.declared.fault.StoreFault.{StoreFault}
use Rattle.promise_store.specs.declared.fault.StoreFault.TheVariants.{Disk, OutOfMemory}
use Rattle.promise_store.specs.Room.{promised_in}
use Rattle.promise_store.specs.Appended.{IsAsBefore}
use Rattle.promise_store.specs.Keeping.{disk_of, held_of, Keeps, Leaves, LeavesDuring}
use Rattle.protocol_model.specs.Sets.{In}
use Rattle.protocol_model.specs.Stores.{Store, promised}
use Rattle.protocol_model.specs.Votes.{told_by, command_run_at, taking_command_run}
use Rattle.paxos_wire.specs.Order.{is_below}
use Rattle.proposer.specs.declared.accept_run.AcceptRun.{AcceptRun}
use Rattle.proposer.specs.declared.campaign.Campaign.{Campaign}
use Rattle.learner.specs.Learning.{Learned}
use Rattle.learner.specs.CommandRuns.{answer_to_run as learner_answer, hearing_run}
use Rattle.acceptor.specs.declared.answers.PrepareAnswer.{PrepareAnswer}
use Rattle.acceptor.specs.declared.answers.PrepareAnswer.TheVariants.{Promise, Refuse}
use Rattle.acceptor.specs.declared.answers.RunAnswer.{RunAnswer}
use Rattle.acceptor.specs.declared.answers.RunAnswer.TheVariants.{Accepted, Refuse as RefuseRun}
use Rattle.acceptor.specs.Answers.{answer_to_prepare, refusal_of_prepare, prepared, answer_to_run, accepted_run}
use Rattle.acceptor.specs.Stored.{store_of}
use Rattle.acceptor.specs.Taken.{IsFault, NeedsStore}
use Rattle.node_rules.specs.Standings.{Place, Standing, with_stored, idle}
use Rattle.node_rules.specs.Sending.{Frame, one, to_others}
use Rattle.node_rules.specs.Turns.{Turn, Refusal, Conflict, still, sending, joined, behind}
use Rattle.node_rules.specs.Learning.{learning}
use Rattle.node_rules.specs.Accepting.{refusing, promising, preparing, voting, accepting}
use Rattle.node_rules.specs.Proposing.{closing}
use Rattle.dealer_node.specs.declared.up.Up.{Up}
use Rattle.dealer_node.specs.declared.running.Running.{Running}
use Rattle.dealer_node.specs.declared.fault.NodeFault.{NodeFault}
use Rattle.dealer_node.specs.declared.fault.NodeFault.TheVariants as fault
use Rattle.dealer_node.specs.Outs.{Told}
use Rattle.dealer_node.specs.Members.{Membership, place_at}
use Rattle.dealer_node.specs.Texts.{Marked}
use Rattle.dealer_node.specs.Turned.{framed}
use Rattle.dealer_node.specs.Answering.{message_of, is_promise, accepted_in}
use Rattle.dealer_node.specs.Fitting.{AreMessages}
use Rattle.dealer_node.specs.Running.{IsRunning, TakesTurn, Closes, proposed_by}
use Rattle.dealer_node.specs.Voting.{telling_votes}
use Rattle.dealer_node.specs.Working.{head_of, disk_under, ComesTo, IsDone, IsUp, Took, Failed, Clashed, Works}
use Rattle.dealer_node.proofs.Telling.{told_with, frames_more}
use Rattle.dealer_node.proofs.Learned.{stored_too}
use Rattle.dealer_node.proofs.Still.{told_to_none, of_refusal}
use Rattle.protocol_model.proofs.Sets.{in_first}
use Rattle.dealer_node.proofs.Worked.{nothing_more, same_turn, memory_took, then_works, works_from}

-- ---- promises

abbrev pub answered_prepare : Bool → Ballot → ℕ → Store → PrepareAnswer
answered_prepare b ballot slot store = if b then Promise ballot slot (told_by store slot) else Refuse ballot slot store.promise

abbrev pub prepared_by : Bool → Ballot → Store → Store
prepared_by b ballot store = if b then promised store ballot else store

abbrev preparing_by : Bool → ℕ → Ballot → ℕ → Standing → Turn
preparing_by b from ballot slot s = if b then promising from ballot slot s else refusing from ballot slot s

module _ {D : Type 0} (g : Ghosts D) where
  -- the ballot is promised
  promised_by : (member : Membership) (s : Standing) (from : ℕ) (ballot : Ballot) (slot : ℕ) (b : Bool) (old new : Up D) (answer : PrepareAnswer) (told : Told) (texts : List (Marked ℕ))
      → IsUp g member old s → answer ≡ answered_prepare b ballot slot s.store → Keeps g (head_of member) (prepared_by b ballot s.store) (store_of new.acceptor)
      → LeavesDuring g (head_of member) s.store (prepared_by b ballot s.store) (disk_under old) (disk_under new)
      → IsRunning member new.running (idle s) → is_promise answer ≡ true → texts ≡ told.frames ++ map framed (one from (message_of answer)) → AreMessages (one from (message_of answer))
      → Took g member s (Ok (preparing_by b from ballot slot s)) old new told (told_with texts told.shown told.faults)
  promised_by member s from ballot slot false old new answer told texts is given keeps during runs promises sent fits =
      absurd (true≢false (sym promises ∙ ap is_promise given))
  promised_by member s from ballot slot true old new answer told texts is given keeps during runs promises sent fits =
      let same : message_of answer ≡ frame.Promise ballot slot (told_by s.store slot) = ap message_of given in
      record {
        turn = promising from ballot slot s;
        rule = refl;
        now = record { running = stored_too member new.running (idle s) (promised s.store ballot) runs; keeps = keeps; unbegun = refl; stands = tt };
        told = frames_more told texts (map framed (one from (frame.Promise ballot slot (told_by s.store slot)))) (sent ∙ ap (λ m. told.frames ++ map framed (one from m)) same);
        fits = subst (λ m. AreMessages (one from m)) same fits;
        moments = during;
        untouched = λ still. absurd (still _ (inl refl));
      }

  -- it is refused
  refused_by : (member : Membership) (s : Standing) (from : ℕ) (ballot : Ballot) (slot : ℕ) (b : Bool) (old new : Up D) (answer : PrepareAnswer) (told : Told) (texts : List (Marked ℕ))
      → IsUp g member old s → answer ≡ answered_prepare b ballot slot s.store → Keeps g (head_of member) (prepared_by b ballot s.store) (store_of new.acceptor)
      → LeavesDuring g (head_of member) s.store (prepared_by b ballot s.store) (disk_under old) (disk_under new)
      → new.running ≡ old.running → is_promise answer ≡ false → (b ≡ false → disk_under new ≡ disk_under old) → texts ≡ told.frames ++ map framed (one from (message_of answer)) → AreMessages (one from (message_of answer))
      → Took g member s (Ok (preparing_by b from ballot slot s)) old new told (told_with texts told.shown told.faults)
  refused_by member s from ballot slot true old new answer told texts is given keeps during same refuses unread sent fits =
      absurd (true≢false (sym (ap is_promise given) ∙ refuses))
  refused_by member s from ballot slot false old new answer told texts is given keeps during same refuses unread sent fits =
      let message : message_of answer ≡ frame.Refuse ballot slot s.store.promise = ap message_of given in
      record {
        turn = refusing from ballot slot s;
        rule = refl;
        now = record { running = subst (λ r. IsRunning member r s) (sym same) is.running; keeps = keeps; unbegun = is.unbegun; stands = is.stands };
        told = frames_more told texts (map framed (one from (frame.Refuse ballot slot s.store.promise))) (sent ∙ ap (λ m. told.frames ++ map framed (one from m)) message);
        fits = subst (λ m. AreMessages (one from m)) message fits;
        moments = during;
        untouched = λ still. unread refl;
      }

  -- what the promise that is shown refuses by itself touches no disk
  pub prepare_unread : (ballot : Ballot) (slot : ℕ) (promise kept : Ballot) (old new : Kept D) (result : Result PrepareAnswer StoreFault) → promise ≡ promised_in (held_of old) → promise ≡ kept
      → NeedsStore g (refusal_of_prepare ballot slot (promised_in (held_of old))) old new result → is_below kept ballot ≡ false → disk_of new ≡ disk_of old
  prepare_unread ballot slot promise kept old new result shown same needs below =
      let P : PrepareAnswer → Type 0 = λ told. MatchResult result (λ given. given ≡ told) (λ why. why ≡ OutOfMemory) × IsAsBefore g old new in
      let unread : P (Refuse ballot slot (promised_in (held_of old))) =
      of_refusal (is_below (promised_in (held_of old)) ballot) (Refuse ballot slot (promised_in (held_of old))) P (ap (λ (b : Ballot). is_below b ballot) (sym shown ∙ same) ∙ below) needs.refused in
      unread.1.disk

  pub prepare_promised : (member : Membership) (s : Standing) (from : ℕ) (ballot : Ballot) (slot : ℕ) (old new : Up D) (answer : PrepareAnswer) (told : Told) (texts : List (Marked ℕ))
      → IsUp g member old s → answer ≡ answer_to_prepare ballot slot s.store → Keeps g (head_of member) (prepared ballot s.store) (store_of new.acceptor)
      → LeavesDuring g (head_of member) s.store (prepared ballot s.store) (disk_under old) (disk_under new)
      → IsRunning member new.running (idle s) → is_promise answer ≡ true → texts ≡ told.frames ++ map framed (one from (message_of answer)) → AreMessages (one from (message_of answer))
      → Took g member s (Ok (preparing from ballot slot s)) old new told (told_with texts told.shown told.faults)
  prepare_promised member s from ballot slot old new answer told texts = promised_by member s from ballot slot (is_below s.store.promise ballot) old new answer told texts

  pub prepare_refused : (member : Membership) (s : Standing) (from : ℕ) (ballot : Ballot) (slot : ℕ) (old new : Up D) (answer : PrepareAnswer) (told : Told) (texts : List (Marked ℕ))
      → IsUp g member old s → answer ≡ answer_to_prepare ballot slot s.store → Keeps g (head_of member) (prepared ballot s.store) (store_of new.acceptor)
      → LeavesDuring g (head_of member) s.store (prepared ballot s.store) (disk_under old) (disk_under new)
      → new.running ≡ old.running → is_promise answer ≡ false → (is_below s.store.promise ballot ≡ false → disk_under new ≡ disk_under old) → texts ≡ told.frames ++ map framed (one from (message_of answer)) → AreMessages (one from (message_of answer))
      → Took g member s (Ok (preparing from ballot slot s)) old new told (told_with texts told.shown told.faults)
  prepare_refused member s from ballot slot old new answer told texts = refused_by member s from ballot slot (is_below s.store.promise ballot) old new answer told texts

  -- the disk failed
  comes_by : (s : Standing) (from : ℕ) (ballot : Ballot) (slot : ℕ) (b : Bool) → s.begun ≡ s.store → ComesTo (Ok (preparing_by b from ballot slot s)) (prepared_by b ballot s.store)
  comes_by s from ballot slot true unbegun = inl (promising from ballot slot s, refl, refl)
  comes_by s from ballot slot false unbegun = inl (refusing from ballot slot s, refl, sym unbegun)

  pub prepare_failed : (member : Membership) (s : Standing) (from : ℕ) (ballot : Ballot) (slot : ℕ) (old new : Up D) → IsUp g member old s
      → Leaves g (head_of member) s.store (prepared ballot s.store) (disk_under new) → LeavesDuring g (head_of member) s.store (prepared ballot s.store) (disk_under old) (disk_under new)
      → Failed g member s (Ok (preparing from ballot slot s)) old new
  prepare_failed member s from ballot slot old new is leaves during =
      record { left = prepared ballot s.store; comes = inr (comes_by s from ballot slot (is_below s.store.promise ballot) is.unbegun); done = tt; leaves = leaves; moments = during }

  -- a fault of the acceptor is that of its disk
  pub is_disk : (why : StoreFault) → (why ≡ Disk) ⊎ (why ≡ OutOfMemory) → (why ≡ OutOfMemory → ⊥) → why ≡ Disk
  is_disk why (inl e) memory = e
  is_disk why (inr e) memory = absurd (memory e)

  -- without want of memory it is what an open store refuses
  pub of_store : (why : StoreFault) → IsFault why ⊎ (why ≡ OutOfMemory) → (why ≡ OutOfMemory → ⊥) → IsFault why
  of_store why (inl of) memory = of
  of_store why (inr e) memory = absurd (memory e)

  pub fails_by : (member : Membership) (s : Standing) (outcome : Result Turn Refusal) (old new : Up D) (earlier later : Told) (why : StoreFault) → why ≡ Disk → Failed g member s outcome old new
      → Works g member s outcome old new earlier later (Err (fault.Store why))
  fails_by member s outcome old new earlier later why e failed = subst (λ w. Works g member s outcome old new earlier later (Err (fault.Store w))) (sym e) failed

-- ---- votes

-- what is learned changes neither the store nor the campaign
pub record KeepsStore (s after : Standing) : Type 0 where
  pub store : after.store ≡ s.store
  pub begun : after.begun ≡ s.begun
  pub campaign : after.campaign ≡ s.campaign

learning_keeps : {A : Type 0} (place : Place) (answer : Result A SlotFault) (learned : Learned) (s : Standing) (first turn : Turn) → behind first (learning place answer learned s) ≡ Ok turn → KeepsStore s turn.after
learning_keeps place (Ok answer) learned s first turn rule =
    let same = same_turn _ turn _ refl rule in
    record { store = ap (λ (t : Turn). t.after.store) (sym same); begun = ap (λ (t : Turn). t.after.begun) (sym same); campaign = ap (λ (t : Turn). t.after.campaign) (sym same) }
learning_keeps place (Err why) learned s first turn rule = let never : Err (Conflict s.store) ≡ Ok turn = rule in absurd (cc)

-- what a first turn sends is sent, whatever comes behind it
sends_by : (first next turn : Turn) (sent : Frame) → behind first (Ok next) ≡ Ok turn → In sent first.frames → In sent turn.frames
sends_by first next turn sent rule at = subst (λ (t : Turn). In sent t.frames) (same_turn (joined first next) turn (behind first (Ok next)) refl rule) (in_first first.frames next.frames sent at)

behind_sends : (first turn : Turn) (next : Result Turn Refusal) (sent : Frame) → behind first next ≡ Ok turn → In sent first.frames → In sent turn.frames
behind_sends first turn (Ok next) sent rule at = sends_by first next turn sent rule at
behind_sends first turn (Err why) sent rule at = let never : Err why ≡ Ok turn = rule in absurd (cc)

telling_sends : (place : Place) (ballot : Ballot) (slot : ℕ) (commands : List Command) (s : Standing) (turn : Turn) (sent : Frame) → telling_votes place ballot slot commands s ≡ Ok turn
    → In sent (to_others place (frame.Accepted ballot slot commands)) → In sent turn.frames
telling_sends place ballot slot commands s turn sent rule at =
    behind_sends (sending (to_others place (frame.Accepted ballot slot commands)) s) turn
    (learning place (learner_answer s.learned place.node ballot slot commands) (hearing_run s.learned place.node ballot slot commands) s) sent rule at

pub telling_keeps : (place : Place) (ballot : Ballot) (slot : ℕ) (commands : List Command) (s : Standing) (turn : Turn) → telling_votes place ballot slot commands s ≡ Ok turn → KeepsStore s turn.after
telling_keeps place ballot slot commands s turn rule =
    learning_keeps place (learner_answer s.learned place.node ballot slot commands) (hearing_run s.learned place.node ballot slot commands) s
    (sending (to_others place (frame.Accepted ballot slot commands)) s) turn rule

learning_comes : {A : Type 0} (place : Place) (answer : Result A SlotFault) (learned : Learned) (s : Standing) (first : Turn) → s.begun ≡ s.store → ComesTo (behind first (learning place answer learned s)) s.store
learning_comes place (Ok answer) learned s first unbegun = inl (_, refl, sym unbegun)
learning_comes place (Err why) learned s first unbegun = inr refl

pub telling_comes : (place : Place) (ballot : Ballot) (slot : ℕ) (commands : List Command) (s : Standing) → s.begun ≡ s.store → ComesTo (telling_votes place ballot slot commands s) s.store
telling_comes place ballot slot commands s unbegun =
    learning_comes place (learner_answer s.learned place.node ballot slot commands) (hearing_run s.learned place.node ballot slot commands) s
    (sending (to_others place (frame.Accepted ballot slot commands)) s) unbegun

learning_done : {A : Type 0} (place : Place) (answer : Result A SlotFault) (learned : Learned) (s : Standing) (first : Turn) → IsDone (behind first (learning place answer learned s))
learning_done place (Ok answer) learned s first = tt
learning_done place (Err why) learned s first = tt

pub telling_done : (place : Place) (ballot : Ballot) (slot : ℕ) (commands : List Command) (s : Standing) → IsDone (telling_votes place ballot slot commands s)
telling_done place ballot slot commands s =
    learning_done place (learner_answer s.learned place.node ballot slot commands) (hearing_run s.learned place.node ballot slot commands) s
    (sending (to_others place (frame.Accepted ballot slot commands)) s)

-- the store of votes
abbrev accepted_by : Bool → Ballot → ℕ → List Command → Store → Store
accepted_by below ballot slot commands store = if below then store else taking_command_run store ballot slot commands

accepted_stores : (below : Bool) (ballot : Ballot) (slot : ℕ) (commands : List Command) (store : Store) → below ≡ false → accepted_by below ballot slot commands store ≡ taking_command_run store ballot slot commands
accepted_stores true ballot slot commands store e = absurd (true≢false e)
accepted_stores false ballot slot commands store e = refl

pub vote_stores : (ballot : Ballot) (slot : ℕ) (commands : List Command) (store : Store) → is_below ballot store.promise ≡ false → accepted_run ballot slot commands store ≡ taking_command_run store ballot slot commands
vote_stores ballot slot commands store above = accepted_stores (is_below ballot store.promise) ballot slot commands store above

abbrev answered_accept : Bool → Ballot → ℕ → List Command → Store → RunAnswer
answered_accept below ballot slot commands store = if below then RefuseRun ballot slot store.promise else Accepted ballot slot (command_run_at store ballot slot commands)

accepts_by : (below : Bool) (ballot : Ballot) (slot : ℕ) (commands : List Command) (store : Store) → below ≡ false → accepted_in (answered_accept below ballot slot commands store) ≡ Some (command_run_at store ballot slot commands)
accepts_by true ballot slot commands store e = absurd (true≢false e)
accepts_by false ballot slot commands store e = refl

pub vote_accepts : (ballot : Ballot) (slot : ℕ) (commands : List Command) (store : Store) → is_below ballot store.promise ≡ false
    → accepted_in (answer_to_run ballot slot commands store) ≡ Some (command_run_at store ballot slot commands)
vote_accepts ballot slot commands store above = accepts_by (is_below ballot store.promise) ballot slot commands store above

-- what the model says of the promise that votes leave
pub record Promising : Type 0 where
  pub promise : (store : Store) (ballot : Ballot) (slot : ℕ) (commands : List Command)
      → ((taking_command_run store ballot slot commands).promise ≡ store.promise) ⊎ ((taking_command_run store ballot slot commands).promise ≡ ballot)

-- a campaign of the ballot stands by the promise then
stands_by : (campaign : Option Campaign) (old new ballot : Ballot) → (new ≡ old) ⊎ (new ≡ ballot) → IfSome campaign (λ c. c.ballot ≡ old) → IfSome campaign (λ c. c.ballot ≡ ballot)
    → IfSome campaign (λ c. c.ballot ≡ new)
stands_by campaign old new ballot (inl same) stands own = subst (λ (b : Ballot). IfSome campaign (λ c. c.ballot ≡ b)) (sym same) stands
stands_by campaign old new ballot (inr same) stands own = subst (λ (b : Ballot). IfSome campaign (λ c. c.ballot ≡ b)) (sym same) own

module _ {D : Type 0} (g : Ghosts D) where
  abbrev with_votes : Standing → Ballot → ℕ → List Command → Standing
  with_votes s ballot slot commands = with_stored s (taking_command_run s.store ballot slot commands)

  -- votes were told and counted
  pub vote_took : (law : Promising) (member : Membership) (s : Standing) (ballot : Ballot) (slot : ℕ) (commands stored : List Command) (old new : Up D) (earlier later : Told)
      → IsUp g member old s → is_below ballot s.store.promise ≡ false → IfSome s.campaign (λ c. c.ballot ≡ ballot)
      → Some stored ≡ accepted_in (answer_to_run ballot slot commands s.store)
      → Keeps g (head_of member) (accepted_run ballot slot commands s.store) (store_of new.acceptor)
      → LeavesDuring g (head_of member) s.store (accepted_run ballot slot commands s.store) (disk_under old) (disk_under new)
      → ((x : Standing) → IsRunning member old.running x → TakesTurn member new.running earlier later (telling_votes (place_at member) ballot slot stored x))
      → 2 ≤ member.nodes
      → Took g member s (voting (place_at member) ballot slot commands s) old new earlier later
  vote_took law member s ballot slot commands stored old new earlier later is above own accepts keeps during tells many =
      let x : Standing = with_votes s ballot slot commands in
      let t = tells x (stored_too member old.running s (taking_command_run s.store ballot slot commands) is.running) in
      let same : stored ≡ command_run_at s.store ballot slot commands = same_Some _ _ (accepts ∙ vote_accepts ballot slot commands s.store above) in
      let kept = telling_keeps (place_at member) ballot slot stored x t.turn t.rule in
      let stores : accepted_run ballot slot commands s.store ≡ t.turn.after.store = vote_stores ballot slot commands s.store above ∙ sym kept.store in
      let promise : (taking_command_run s.store ballot slot commands).promise ≡ t.turn.after.store.promise = ap (λ (st : Store). st.promise) (sym kept.store) in
      let stands = stands_by s.campaign s.store.promise (taking_command_run s.store ballot slot commands).promise ballot (law.promise s.store ballot slot commands) is.stands own in
      record {
        turn = t.turn;
        rule = sym (ap (λ (cs : List Command). telling_votes (place_at member) ballot slot cs x) same) ∙ t.rule;
        now = record {
          running = t.taken.runs;
          keeps = subst (λ (st : Store). Keeps g (head_of member) st (store_of new.acceptor)) stores keeps;
          unbegun = kept.begun ∙ sym kept.store;
          stands = subst (λ (c : Option Campaign). IfSome c (λ k. k.ballot ≡ t.turn.after.store.promise)) (sym kept.campaign) (subst (λ (b : Ballot). IfSome s.campaign (λ k. k.ballot ≡ b)) promise stands);
        };
        told = t.taken.told;
        fits = t.taken.fits;
        moments = subst (λ (st : Store). LeavesDuring g (head_of member) s.store st (disk_under old) (disk_under new)) stores during;
        untouched = λ still. absurd (told_to_none member.nodes member.node (frame.Accepted ballot slot stored) many (λ e. e) (λ sent at. still sent (telling_sends (place_at member) ballot slot stored x t.turn sent t.rule at)));
      }

  -- another command was known
  pub vote_clashed : (member : Membership) (s : Standing) (ballot : Ballot) (slot : ℕ) (commands stored : List Command) (old new : Up D)
      → IsUp g member old s → is_below ballot s.store.promise ≡ false
      → Some stored ≡ accepted_in (answer_to_run ballot slot commands s.store)
      → Leaves g (head_of member) s.store (accepted_run ballot slot commands s.store) (disk_under new)
      → LeavesDuring g (head_of member) s.store (accepted_run ballot slot commands s.store) (disk_under old) (disk_under new)
      → ((x : Standing) → IsRunning member old.running x → telling_votes (place_at member) ballot slot stored x ≡ Err (Conflict x.store))
      → Clashed g member s (voting (place_at member) ballot slot commands s) old new
  vote_clashed member s ballot slot commands stored old new is above accepts leaves during clashes =
      let x : Standing = with_votes s ballot slot commands in
      let same : stored ≡ command_run_at s.store ballot slot commands = same_Some _ _ (accepts ∙ vote_accepts ballot slot commands s.store above) in
      let stores = vote_stores ballot slot commands s.store above in
      record {
        left = x.store;
        rule = sym (ap (λ (cs : List Command). telling_votes (place_at member) ballot slot cs x) same) ∙ clashes x (stored_too member old.running s (taking_command_run s.store ballot slot commands) is.running);
        leaves = subst (λ (st : Store). Leaves g (head_of member) s.store st (disk_under new)) stores leaves;
        moments = subst (λ (st : Store). LeavesDuring g (head_of member) s.store st (disk_under old) (disk_under new)) stores during;
      }

  -- the disk failed
  pub vote_failed : (member : Membership) (s : Standing) (ballot : Ballot) (slot : ℕ) (commands : List Command) (old new : Up D)
      → is_below ballot s.store.promise ≡ false
      → Leaves g (head_of member) s.store (accepted_run ballot slot commands s.store) (disk_under new)
      → LeavesDuring g (head_of member) s.store (accepted_run ballot slot commands s.store) (disk_under old) (disk_under new)
      → Failed g member s (voting (place_at member) ballot slot commands s) old new
  vote_failed member s ballot slot commands old new above leaves during =
      let stores = vote_stores ballot slot commands s.store above in
      record {
        left = taking_command_run s.store ballot slot commands;
        comes = inr (telling_comes (place_at member) ballot slot (command_run_at s.store ballot slot commands) (with_votes s ballot slot commands) refl);
        done = telling_done (place_at member) ballot slot (command_run_at s.store ballot slot commands) (with_votes s ballot slot commands);
        leaves = subst (λ (st : Store). Leaves g (head_of member) s.store st (disk_under new)) stores leaves;
        moments = subst (λ (st : Store). LeavesDuring g (head_of member) s.store st (disk_under old) (disk_under new)) stores during;
      }

  -- own votes that aren't below the promise are never refused
  pub vote_stands : {P : Type 0} (ballot : Ballot) (slot : ℕ) (commands : List Command) (store : Store) (answer : RunAnswer) → is_below ballot store.promise ≡ false → answer ≡ answer_to_run ballot slot commands store
      → None ≡ accepted_in answer → P
  vote_stands {P} ballot slot commands store answer above given none =
      let some : Some (command_run_at store ballot slot commands) ≡ None = sym (vote_accepts ballot slot commands store above) ∙ sym (ap accepted_in given) ∙ sym none in
      absurd (cc)

-- ---- a proposal of another

abbrev accepting_by : Bool → Place → ℕ → Ballot → ℕ → List Command → Standing → Result Turn Refusal
accepting_by below place from ballot slot commands s = if below then Ok (refusing from ballot slot s) else voting place ballot slot commands (idle s)

refusing_is : (below : Bool) (place : Place) (from : ℕ) (ballot : Ballot) (slot : ℕ) (commands : List Command) (s : Standing) → below ≡ true → accepting_by below place from ballot slot commands s ≡ Ok (refusing from ballot slot s)
refusing_is true place from ballot slot commands s e = refl
refusing_is false place from ballot slot commands s e = absurd (true≢false (sym e))

voting_is : (below : Bool) (place : Place) (from : ℕ) (ballot : Ballot) (slot : ℕ) (commands : List Command) (s : Standing) → below ≡ false → accepting_by below place from ballot slot commands s ≡ voting place ballot slot commands (idle s)
voting_is true place from ballot slot commands s e = absurd (true≢false e)
voting_is false place from ballot slot commands s e = refl

module _ {D : Type 0} (g : Ghosts D) where
  pub accept_refused : (member : Membership) (s : Standing) (from : ℕ) (ballot promise : Ballot) (slot : ℕ) (commands : List Command) (up : Up D) (told : Told) (texts : List (Marked ℕ))
      → IsUp g member up s → promise ≡ s.store.promise → is_below ballot promise ≡ true
      → texts ≡ told.frames ++ map framed (one from (frame.Refuse ballot slot promise)) → AreMessages (one from (frame.Refuse ballot slot promise))
      → Took g member s (accepting (place_at member) from ballot slot commands s) up up told (told_with texts told.shown told.faults)
  accept_refused member s from ballot promise slot commands up told texts is same below sent fits =
      let turn : Turn = refusing from ballot slot s in
      let b : is_below ballot s.store.promise ≡ true = ap (is_below ballot) (sym same) ∙ below in
      record {
        turn = turn;
        rule = refusing_is (is_below ballot s.store.promise) (place_at member) from ballot slot commands s b;
        now = is;
        told = frames_more told texts (map framed (one from (frame.Refuse ballot slot s.store.promise))) (sent ∙ ap (λ (p : Ballot). told.frames ++ map framed (one from (frame.Refuse ballot slot p))) same);
        fits = subst (λ (p : Ballot). AreMessages (one from (frame.Refuse ballot slot p))) same fits;
        moments = λ t image was. inl was;
        untouched = λ still. refl;
      }

  pub accept_voted : (member : Membership) (s : Standing) (from : ℕ) (ballot promise : Ballot) (slot : ℕ) (commands : List Command) (mid old new : Up D) (earlier later : Told) (answer : Result (Unit {0}) NodeFault)
      → disk_under mid ≡ disk_under old → promise ≡ s.store.promise → is_below ballot promise ≡ false
      → Works g member (idle s) (voting (place_at member) ballot slot commands (idle s)) mid new earlier later answer
      → Works g member s (accepting (place_at member) from ballot slot commands s) old new earlier later answer
  accept_voted member s from ballot promise slot commands mid old new earlier later answer disk same above works =
      let b : is_below ballot s.store.promise ≡ false = ap (is_below ballot) (sym same) ∙ above in
      works_from g member s (idle s) _ mid old new earlier later answer refl disk
      (subst (λ (o : Result Turn Refusal). Works g member (idle s) o mid new earlier later answer) (sym (voting_is (is_below ballot s.store.promise) (place_at member) from ballot slot commands s b)) works)

-- ---- proposals

below_itself : (round node : ℕ) → is_below (let b : Ballot = record { round = round; node = node } in b) (record { round = round; node = node }) ≡ false
below_itself round node =
    ap (λ (b : Bool). if b then true else (if round == round then nat_lt node node else false)) (le-ltb round round (omega arith))
    ∙ ap (λ (b : Bool). if b then nat_lt node node else false) (eq-eqb round round refl)
    ∙ le-ltb node node (omega arith)

pub not_below : (ballot promise : Ballot) → ballot ≡ promise → is_below ballot promise ≡ false
not_below ballot promise e = ap (λ (b : Ballot). is_below b promise) e ∙ below_itself promise.round promise.node

module _ {D : Type 0} (g : Ghosts D) where
  pub propose_works : (member : Membership) (s : Standing) (made : AcceptRun) (commands : List Command) (old new : Up D) (told later : Told) (texts : List (Marked ℕ)) (answer : Result (Unit {0}) NodeFault)
      → commands ≡ made.commands → IsUp g member old s → made.ballot ≡ s.store.promise
      → texts ≡ told.frames ++ map framed (to_others (place_at member) (frame.Accept made.ballot made.slot commands)) → AreMessages (to_others (place_at member) (frame.Accept made.ballot made.slot commands))
      → (is_below made.ballot s.store.promise ≡ false → IfSome s.campaign (λ c. c.ballot ≡ made.ballot)
      → Works g member s (voting (place_at member) made.ballot made.slot commands s) old new (told_with texts told.shown told.faults) later answer)
      → Works g member s (proposed_by (place_at member) (Some made) s) old new told later answer
  propose_works member s made commands old new told later texts answer same is own sent fits votes =
      let frames : List Frame = to_others (place_at member) (frame.Accept made.ballot made.slot commands) in
      let turn : Turn = sending frames s in
      let first : Took g member s (Ok turn) old old told (told_with texts told.shown told.faults) = record {
        turn = turn;
        rule = refl;
        now = is;
        told = frames_more told texts (map framed frames) sent;
        fits = fits;
        moments = λ t image was. inl was;
        untouched = λ still. refl;
      } in
      subst (λ (cs : List Command). Works g member s (proposed_by (place_at member) (Some (record made { commands = cs })) s) old new told later answer) same
      (then_works g member s (voting (place_at member) made.ballot made.slot commands) (Ok turn) old old new told (told_with texts told.shown told.faults) later answer first (inl refl)
      (votes (not_below made.ballot s.store.promise own) (subst (λ (b : Ballot). IfSome s.campaign (λ c. c.ballot ≡ b)) (sym own) is.stands)))

  marked_up : (member : Membership) (s marked : Standing) (old : Up D) (running : Running) → IsUp g member old s → IsRunning member running marked → marked ≡ record s { campaign = marked.campaign }
      → IfSome marked.campaign (λ c. c.ballot ≡ s.store.promise) → IsUp g member (record old { running = running }) marked
  marked_up member s marked old running is runs rest stands =
      let store : s.store ≡ marked.store = sym (ap (λ (x : Standing). x.store) rest) in
      record {
        running = runs;
        keeps = subst (λ (st : Store). Keeps g (head_of member) st (store_of old.acceptor)) store is.keeps;
        unbegun = ap (λ (x : Standing). x.begun) rest ∙ is.unbegun ∙ store;
        stands = subst (λ (st : Store). IfSome marked.campaign (λ c. c.ballot ≡ st.promise)) store stands;
      }

  pub close_works : (member : Membership) (s : Standing) (made : AcceptRun) (old new : Up D) (running : Running) (told later : Told) (answer : Result (Unit {0}) NodeFault)
      → IsUp g member old s → (closes : Closes member running s (Some made))
      → (IsUp g member (record old { running = running }) closes.marked → made.ballot ≡ closes.marked.store.promise
      → Works g member closes.marked (proposed_by (place_at member) (Some made) closes.marked) (record old { running = running }) new told later answer)
      → Works g member s (closing (place_at member) s) old new told later answer
  close_works member s made old new running told later answer is closes proposes =
      let store : s.store ≡ closes.marked.store = sym (ap (λ (x : Standing). x.store) closes.rest) in
      let there = marked_up member s closes.marked old running is closes.runs closes.rest (closes.stands s.store.promise is.stands) in
      let own : made.ballot ≡ closes.marked.store.promise = closes.own s.store.promise is.stands ∙ ap (λ (st : Store). st.promise) store in
      works_from g member s closes.marked (closing (place_at member) s) (record old { running = running }) old new told later answer (sym store) refl
      (subst (λ (o : Result Turn Refusal). Works g member closes.marked o (record old { running = running }) new told later answer) (sym closes.rule) (proposes there own))

  pub close_rests : (member : Membership) (s : Standing) (old : Up D) (running : Running) (told : Told) → IsUp g member old s → Closes member running s None
      → Took g member s (closing (place_at member) s) old (record old { running = running }) told told
  close_rests member s old running told is closes =
      let store : closes.marked.store ≡ s.store = ap (λ (x : Standing). x.store) closes.rest in
      let there = marked_up member s closes.marked old running is closes.runs closes.rest (closes.stands s.store.promise is.stands) in
      memory_took g member s (closing (place_at member) s) (still closes.marked) old running told told is closes.rule closes.runs store (ap (λ (x : Standing). x.begun) closes.rest) there.stands (nothing_more told closes.marked) (λ one at. absurd at)
