-- The turns of a calm round.
use Rattle.std.proofs.Common.{◌≡◌, ℕ, ◌<◌, ◌≤◌, ◌+◌, ◌*◌, ◌-◌, ◌⊎◌, inl, inr, Bool, true, false, true≢false, not, ◌&&◌, if◌then◌else◌, List, [], ◌∷◌, map, Option, Some, None, Result, Ok, Err, refl, sym, ap, subst, ◌∙◌, arith, length, replicate, get_or}
use Rattle.std.specs.Prelude.{nat_le, IsOk}
use Rattle.std.proofs.lemmas.Bool.{lt-ltb, le-ltb, leb-true}
use Rattle.paxos_wire.specs.declared.limits.TheConstants.{SLOTS, WINDOW}
use Rattle.paxos_wire.specs.declared.ballot.Ballot.{Ballot}
use Rattle.paxos_wire.specs.declared.entry.Entry.{Entry}
use Rattle.paxos_wire.specs.declared.message.Message.{Message as Wire}
use Rattle.paxos_wire.specs.declared.message.Message.TheVariants as frame
use Rattle.slot_log.specs.Slots.{Log, IsLog, front}
use Rattle.slot_log.specs.declared.command.Command.{Command}
use Rattle.protocol_model.specs.Sets.{In}
use Rattle.protocol_model.specs.Ballots.{Below, AtMost}
use Rattle.protocol_model.specs.Messages.{Vote, Message, Accepted, vote_of}
use Rattle.protocol_model.specs.Frames.{answers}
use Rattle.protocol_model.specs.Quorums.{IsChosenIn}
use Rattle.protocol_model.specs.Stores.{Store, promised}
use Rattle.protocol_model.specs.Backing.{IsWithinPromise}
use Rattle.proposer.specs.declared.accept_run.AcceptRun.{AcceptRun}
use Rattle.proposer.specs.declared.campaign.Campaign.{Campaign}
use Rattle.proposer.specs.declared.fault.ProposeFault.{ProposeFault}
use Rattle.proposer.specs.declared.fault.ProposeFault.TheVariants.{OutOfWindow}
use Rattle.paxos_wire.specs.Order.{is_below}
use Rattle.proposer.specs.Campaigns.{has_quorum, leads, is_covered, is_proposed, new_campaign, with_promise, counting_from}
use Rattle.proposer.specs.CommandRuns.{alone, told_commands, commands_of, commands_at, accept_run_of, run_by, run_from_campaign, marked_run_from}
use Rattle.proposer.specs.Counted.{MarksSent}
use Rattle.proposer.proofs.SafeRuns.{PassedRun, passed_run}
use Rattle.proposer.proofs.ToldCommands.{some_made}
use Rattle.learner.specs.Learning.{Learned}
use Rattle.learner.specs.CommandRuns.{answer_to_run, hearing_run}
use Rattle.learner.specs.Counted.{IsOpen}
use Rattle.dealer_kind.specs.Kind.{Setting}
use Rattle.dealer_kind.specs.Plans.{HasNodes}
use Rattle.node_rules.specs.Standings.{Place, Standing, front_of, with_stored, idle}
use Rattle.node_rules.specs.Sending.{to_others}
use Rattle.node_rules.specs.Turns.{Turn, Refusal, Spent, still, sending, joined, behind, and_then}
use Rattle.protocol_model.specs.Votes.{told_by, is_of_ballot, taking_command_run}
use Rattle.node_rules.specs.Accepting.{promising, refusing, voting}
use Rattle.node_rules.specs.Applying.{applying}
use Rattle.node_rules.specs.Proposing.{is_over, is_spent, prepared, beginning, ticking, own_value, closing_by, proposal_at, closing}
use Rattle.node_rules.specs.Rules.{seeing, taking, asking, on_message}
use Rattle.node_rules.specs.Calm.{IsLeastQuorum, ballot_after, IsUnheld, IsToldCommandRun, IsOwn}
use Rattle.node_rules.specs.CalmRound.{place_in, AreKnown}
use Rattle.node_rules.specs.Given.{Given}
use Rattle.protocol_model.proofs.Ballots.{at_most_self, at_most_trans, at_most_of_below, not_below, below_if, is_below_if}
use Rattle.protocol_model.proofs.Votes.{tells}
use Rattle.node_rules.proofs.NextBallots.{highest_low}
use Rattle.node_rules.proofs.OwnRuns.{unmarked}
use Rattle.node_rules.proofs.Closing.{none_of_ballot}
use Rattle.node_rules.proofs.Halting.{unled_by}
use Rattle.node_rules.proofs.Asked.{asked_same}
use Rattle.node_rules.proofs.Settled.{PassesOver, passes_over, run_ok_if, learning_ok, counted_is, voting_is, turn_made, Fresh, made_turn, marked_none, marked_at}
use Rattle.node_rules.proofs.Electing.{covered}
use Rattle.node_rules.proofs.Counting.{Counts, GrowsByEach, votes_grow, heard_run, answers_had}
use Rattle.node_rules.proofs.RunHeard.{KnowsOnly, all_taken, all_heard}
use Rattle.node_rules.proofs.CalmPromises.{IsCounted, new_counted, quorum_is, counts_more, Agree, IsTold, greatest_value, none_held, told_are}
use Rattle.node_rules.proofs.KeptVotes.{own_same}
use Rattle.node_rules.proofs.Members.{is_in, in_is, not_in, count_list, AreDistinct}
use Rattle.protocol_model.proofs.Quorums.{count_within}
use Rattle.protocol_model.proofs.Sets.{Within, all_same}

-- ---- tests

not_below_self : (b : Ballot) → is_below b b ≡ false
not_below_self b = by_test (is_below b b) refl
  where
    by_test : (t : Bool) → is_below b b ≡ t → is_below b b ≡ false
    by_test true e = absurd (not_below b b (at_most_self b) (below_if b b e))
    by_test false e = e

-- ---- a vote of a new ballot completes nothing by itself

-- only this node's votes of the ballot are among the messages
pub alone_yet : (g : Given) (n i : ℕ) (ballot : Ballot) (slot : ℕ) (command : Command) (messages : List Message) → HasNodes n
    → ((voter : ℕ) → In (Accepted voter ballot slot command) messages → voter ≡ i)
    → IsChosenIn n (Accepted i ballot slot command ∷ messages) ballot slot command → ⊥
alone_yet g n i ballot slot command messages few only (quorum, most, answers) =
    g.one_node n i quorum (g.least_nodes n few) (λ k below is. own_only k (answers k below is)) most
  where
    own_only : (k : ℕ) → In (Accepted k ballot slot command) (Accepted i ballot slot command ∷ messages) → k ≡ i
    own_only k (inl e) = cc
    own_only k (inr h) = only k h

-- no vote of the ballot for these slots is another node's: the votes complete nothing
pub new_votes_pass : (g : Given) (n i : ℕ) (l : Learned) (came : List Message) (ballot : Ballot) (slot : ℕ) (commands : List Command) → HasNodes n → l.nodes ≡ n → Counts came l
    → ((voter k : ℕ) (command : Command) → slot ≤ k → k < slot + length commands → In (Accepted voter ballot k command) came → voter ≡ i) → PassesOver l i ballot slot commands
new_votes_pass g n i l came ballot slot commands few nodes counts only =
    passes_over g l came i ballot slot commands counts.counts_from (λ k command low high chosen.
    alone_yet g n i ballot k command came few (λ voter h. only voter k command low high h) (subst (λ (m : ℕ). IsChosenIn m (Accepted i ballot k command ∷ came) ballot k command) nodes chosen))

-- ---- closes

-- a node that doesn't lead rests
pub unled_close : (place : Place) (s : Standing) → leads place.nodes s.campaign ≡ false → closing place s ≡ Ok (still s)
unled_close place s e =
    ap (λ (b : Bool). if b && nat_le SLOTS (front_of s) then Ok (still (idle s)) else closing_by place (proposal_at place s) (record s { campaign = marked_run_from s.campaign (proposal_at place s) })) e
    ∙ rest_close (unled_by place.nodes s.campaign (front_of s) (own_value place s) e)
  where
    rest_close : proposal_at place s ≡ Ok None
        → closing_by place (proposal_at place s) (record s { campaign = marked_run_from s.campaign (proposal_at place s) }) ≡ Ok (still s)
    rest_close none =
        ap (λ (r : Result (Option AcceptRun) ProposeFault). closing_by place r (record s { campaign = marked_run_from s.campaign r })) none
        ∙ ap (λ (y : Option Campaign). let t : Result Turn Refusal = Ok (still (record s { campaign = y })) in t) (unmarked s.campaign)

room_close : (place : Place) (s : Standing) (r : Result (Option AcceptRun) ProposeFault) → nat_le SLOTS (front_of s) ≡ false → proposal_at place s ≡ r
    → closing place s ≡ closing_by place r (record s { campaign = marked_run_from s.campaign r })
room_close place s r room e =
    ap (λ (b : Bool). if leads place.nodes s.campaign && b then Ok (still (idle s)) else closing_by place (proposal_at place s) (record s { campaign = marked_run_from s.campaign (proposal_at place s) })) room
    ∙ (by_lead (leads place.nodes s.campaign)
    ∙ ap (λ (y : Result (Option AcceptRun) ProposeFault). closing_by place y (record s { campaign = marked_run_from s.campaign y })) e)
  where
    by_lead : (b : Bool) → (if b && false then Ok (still (idle s)) else closing_by place (proposal_at place s) (record s { campaign = marked_run_from s.campaign (proposal_at place s) }))
        ≡ closing_by place (proposal_at place s) (record s { campaign = marked_run_from s.campaign (proposal_at place s) })
    by_lead true = refl
    by_lead false = refl

-- nothing to propose: it rests
pub quiet_close : (place : Place) (s : Standing) → nat_le SLOTS (front_of s) ≡ false → proposal_at place s ≡ Ok None → closing place s ≡ Ok (still s)
quiet_close place s room e =
    room_close place s (Ok None) room e
    ∙ ap (λ (y : Option Campaign). let t : Result Turn Refusal = Ok (still (record s { campaign = y })) in t) (unmarked s.campaign)

-- a proposal
pub made_close : (place : Place) (s : Standing) (k : Campaign) (made : AcceptRun) → nat_le SLOTS (front_of s) ≡ false → s.campaign ≡ Some k → proposal_at place s ≡ Ok (Some made) → Fresh place s k made
    → closing place s ≡ Ok (turn_made place s k made)
made_close place s k made room has e f = room_close place s (Ok (Some made)) room e ∙ made_turn place s k made has f

-- however it is, it comes to a turn that learns nothing
pub record ClosesSo (place : Place) (s : Standing) : Type 0 where
  pub turn : Turn
  pub closes_so : closing place s ≡ Ok turn
  pub same_log : turn.after.learned.log ≡ s.learned.log
  pub same_seen : turn.after.seen ≡ s.seen
  pub promise : (turn.after.store.promise ≡ s.store.promise) ⊎ ((k : Campaign) × (s.campaign ≡ Some k) × (turn.after.store.promise ≡ k.ballot))

pub total_close : (g : Given) (place : Place) (s : Standing) (k : Campaign) → s.campaign ≡ Some k
    → ((made : AcceptRun) → run_by place.nodes k (front_of s) (own_value place s) ≡ Ok (Some made) → Fresh place s k made) → ClosesSo place s
total_close g place s k has fresh_if = by_room (nat_le SLOTS (front_of s)) refl
  where
    by_proposal : (r : Result (Option AcceptRun) ProposeFault) → nat_le SLOTS (front_of s) ≡ false → proposal_at place s ≡ r → ClosesSo place s
    by_proposal (Ok None) room e = record { turn = still s; closes_so = quiet_close place s room e; same_log = refl; same_seen = refl; promise = inl refl }
    by_proposal (Err fault) room e = record { turn = still (idle s); closes_so = room_close place s (Err fault) room e; same_log = refl; same_seen = refl; promise = inl refl }
    by_proposal (Ok (Some made)) room e =
        let made_so : run_by place.nodes k (front_of s) (own_value place s) ≡ Ok (Some made) =
        ap (λ (y : Option Campaign). run_from_campaign place.nodes y (front_of s) (own_value place s)) (sym has) ∙ e in
        let f = fresh_if made made_so in
        let tests = passed_run place.nodes k (front_of s) (own_value place s) made made_so in
        record {
          turn = turn_made place s k made;
          closes_so = made_close place s k made room has e f;
          same_log = f.over.log;
          same_seen = refl;
          promise = elim (g.command_run_promise s.store made.ballot made.slot made.commands) [ inl same ↦ inl same | inr new ↦ inr (k, has, new ∙ tests.ballot) ];
        }

    by_lead : (b : Bool) → leads place.nodes s.campaign ≡ b → nat_le SLOTS (front_of s) ≡ true → ClosesSo place s
    by_lead true led room = record {
      turn = still (idle s);
      closes_so = λ j. if led j && room j then Ok (still (idle s)) else closing_by place (proposal_at place s) (record s { campaign = marked_run_from s.campaign (proposal_at place s) });
      same_log = refl;
      same_seen = refl;
      promise = inl refl;
    }
    by_lead false led room = record { turn = still s; closes_so = unled_close place s led; same_log = refl; same_seen = refl; promise = inl refl }

    by_room : (b : Bool) → nat_le SLOTS (front_of s) ≡ b → ClosesSo place s
    by_room true room = by_lead (leads place.nodes s.campaign) refl room
    by_room false room = by_proposal (proposal_at place s) room refl

-- ---- whole messages

pub message_turn : (place : Place) (from : ℕ) (w : Wire) (s : Standing) (t c : Turn) → taking place from w (seeing w s) ≡ Ok t → closing place t.after ≡ Ok c
    → on_message place from w s ≡ Ok (joined (joined t c) (asking from w c.after))
message_turn place from w s t c et ec =
    ap (λ (r : Result Turn Refusal). and_then (and_then r (closing place)) (λ closed. Ok (asking from w closed))) et
    ∙ ap (λ (r : Result Turn Refusal). and_then (behind t r) (λ closed. Ok (asking from w closed))) ec

-- ---- the round, and the members at rest

pub record Round : Type 0 where
  pub given : Given
  pub setting : Setting
  pub n : ℕ
  pub deals : ℕ → ℕ → Option (List ℕ)
  pub standings : ℕ → Standing
  pub i : ℕ
  pub members : List ℕ
  pub commands : List Command

abbrev pub place_at : Round → ℕ → Place
place_at r k = place_in r.setting r.n r.deals k

abbrev pub ballot_in : Round → Ballot
ballot_in r = ballot_after r.i (r.standings r.i)

abbrev pub slot_in : Round → ℕ
slot_in r = front_of (r.standings r.i)

abbrev pub stores_in : Round → ℕ → Store
stores_in r m = (r.standings m).store

abbrev pub told_in : Round → ℕ → List Entry
told_in r m = told_by (r.standings m).store (slot_in r)

-- what is known of the members at rest; these votes came to each in time
pub record IsRest (r : Round) : Type 0 where
  pub few : HasNodes r.n
  pub low : (k : ℕ) → In k r.members → k < r.n
  pub quorum : IsLeastQuorum r.n r.members
  pub member : In r.i r.members
  pub up : (k : ℕ) → In k r.members → (r.standings k).up ≡ true
  pub slot_left : slot_in r < SLOTS
  pub above : (k : ℕ) → In k r.members → Below (r.standings k).store.promise (ballot_in r)
  pub not_over : is_over (place_at r r.i) (r.standings r.i) ≡ false
  pub not_spent : is_spent (r.standings r.i) ≡ false
  pub within : (k : ℕ) → In k r.members → IsWithinPromise (r.standings k).store
  pub agree : (slot : ℕ) → Agree r.standings r.members slot
  pub least : 1 ≤ length r.commands
  pub most : length r.commands ≤ WINDOW
  pub slots : slot_in r + length r.commands ≤ SLOTS
  pub value : IsToldCommandRun r.standings r.members (slot_in r) r.commands
      ⊎ ((command : Command) × (r.commands ≡ command ∷ []) × IsOwn (place_at r r.i) (r.standings r.i) r.standings r.members (slot_in r) command)
  -- where the node knows a command at one of their slots already, it is theirs
  pub known_so : KnowsOnly (r.standings r.i).learned.log (slot_in r) r.commands
  pub came : (k : ℕ) → In k r.members → List Message
  pub nodes : (k : ℕ) → In k r.members → (r.standings k).learned.nodes ≡ r.n
  pub log : (k : ℕ) → In k r.members → IsLog (r.standings k).learned.log
  pub counts : (k : ℕ) (h : In k r.members) → Counts (came k h) (r.standings k).learned
  pub unvoted : (k : ℕ) (h : In k r.members) (voter slot : ℕ) (c : Command) → In (Accepted voter (ballot_in r) slot c) (came k h) → ⊥

-- no member has a vote of the ballot
pub no_vote : (r : Round) → IsRest r → (k : ℕ) → In k r.members → (slot : ℕ) (v : Vote) → (r.standings k).store.votes slot ≡ Some v → v.ballot ≡ ballot_in r → ⊥
no_vote r rest k h slot v e same =
    not_below (ballot_in r) (r.standings k).store.promise (subst (λ (b : Ballot). AtMost b (r.standings k).store.promise) same (rest.within k h slot v e)) (rest.above k h)

pub unvoted_slot : (r : Round) → IsRest r → (k : ℕ) → In k r.members → (slot : ℕ) → is_of_ballot ((r.standings k).store.votes slot) (ballot_in r) ≡ false
unvoted_slot r rest k h slot = none_of_ballot ((r.standings k).store.votes slot) (ballot_in r) (λ v e same. no_vote r rest k h slot v e same)

-- ---- the tick

pub begun_counted : (r : Round) → IsRest r → IsCounted (ballot_in r) (slot_in r) (stores_in r) (r.i ∷ []) (prepared (place_at r r.i) (ballot_in r) (r.standings r.i))
begun_counted r rest =
    counts_more r.n (ballot_in r) (slot_in r) (stores_in r) [] (new_campaign (ballot_in r) (slot_in r)) r.i
    (quorum_is r.n (ballot_in r) (slot_in r) (stores_in r) [] (new_campaign (ballot_in r) (slot_in r)) tt (new_counted (ballot_in r) (slot_in r) (stores_in r)) ∙ le-ltb r.n 0 (omega arith))
    refl (let l = rest.low r.i rest.member in let m = r.given.most_nodes r.n rest.few in omega arith) (new_counted (ballot_in r) (slot_in r) (stores_in r))

abbrev pub begun_turn : Round → Turn
begun_turn r = beginning (place_at r r.i) (ballot_in r) (r.standings r.i)

-- its own promise alone is no quorum
pub begun_unled : (r : Round) → HasNodes r.n → has_quorum r.n (prepared (place_at r r.i) (ballot_in r) (r.standings r.i)) ≡ false
begun_unled r few = r.given.alone r.n r.i (ballot_in r) (ballot_in r) (slot_in r) (slot_in r) (told_in r r.i) (r.given.least_nodes r.n few)

abbrev pub ticked_turn : Round → Turn
ticked_turn r = joined (begun_turn r) (still (begun_turn r).after)

pub tick_turn : (r : Round) → HasNodes r.n → is_over (place_at r r.i) (r.standings r.i) ≡ false → is_spent (r.standings r.i) ≡ false
    → and_then (ticking (place_at r r.i) (r.standings r.i)) (closing (place_at r r.i)) ≡ Ok (ticked_turn r)
tick_turn r few not_over not_spent =
    ap (λ (x : Result Turn Refusal). and_then x (closing (place_at r r.i))) begins_so
    ∙ ap (behind (begun_turn r)) (unled_close (place_at r r.i) (begun_turn r).after (begun_unled r few))
  where
    begins_so : ticking (place_at r r.i) (r.standings r.i) ≡ Ok (begun_turn r)
    begins_so = λ j. if not_over j then Ok (still (r.standings r.i)) else if not_spent j then Err Spent else Ok (begun_turn r)

-- ---- a Prepare

abbrev pub prepare_in : Round → Wire
prepare_in r = frame.Prepare (ballot_in r) (slot_in r)

abbrev pub promise_in : Round → ℕ → Wire
promise_in r j = frame.Promise (ballot_in r) (slot_in r) (told_in r j)

abbrev pub promised_turn : Round → ℕ → Turn
promised_turn r j = promising r.i (ballot_in r) (slot_in r) (seeing (prepare_in r) (r.standings j))

pub prepare_turn : (r : Round) → IsRest r → (j : ℕ) → In j r.members
    → on_message (place_at r j) r.i (prepare_in r) (r.standings j)
    ≡ Ok (joined (joined (promised_turn r j) (still (promised_turn r j).after)) (asking r.i (prepare_in r) (promised_turn r j).after))
prepare_turn r rest j h =
    message_turn (place_at r j) r.i (prepare_in r) (r.standings j) (promised_turn r j) (still (promised_turn r j).after)
    (ap (λ (b : Bool). let x : Result Turn Refusal = Ok (if b then promised_turn r j else refusing r.i (ballot_in r) (slot_in r) (seeing (prepare_in r) (r.standings j))) in x)
    (is_below_if (r.standings j).store.promise (ballot_in r) (rest.above j h)))
    (unled_close (place_at r j) (promised_turn r j).after refl)

-- ---- a Promise

-- what node i is while its ballot is prepared, with these nodes' promises counted
pub record IsPreparing (r : Round) (counted : List ℕ) (s : Standing) : Type 0 where
  pub up : s.up ≡ true
  pub campaign : Campaign
  pub has : s.campaign ≡ Some campaign
  pub counts : IsCounted (ballot_in r) (slot_in r) (stores_in r) counted campaign
  pub store : s.store ≡ promised (r.standings r.i).store (ballot_in r)
  pub learned : s.learned ≡ (r.standings r.i).learned
  pub pending : s.pending ≡ (r.standings r.i).pending
  pub seen : AtMost s.seen (ballot_in r)

-- a member's promise tells of no ballot above the node's
told_from_low : (entries : List Entry) (top : Ballot) → ((entry : Entry) → In entry entries → AtMost entry.ballot top)
    → (b : Ballot) → In b (map (λ (entry : Entry). entry.ballot) entries) → AtMost b top
told_from_low [] top all b h = absurd h
told_from_low (entry ∷ entries) top all b (inl e) = subst (λ (x : Ballot). AtMost x top) (sym e) (all entry (inl refl))
told_from_low (entry ∷ entries) top all b (inr h) = told_from_low entries top (λ o k. all o (inr k)) b h

told_low : (r : Round) → IsRest r → (j : ℕ) → In j r.members → (entry : Entry) → In entry (told_in r j) → AtMost entry.ballot (ballot_in r)
told_low r rest j h entry there =
    at_most_trans entry.ballot (r.standings j).store.promise (ballot_in r)
    (rest.within j h entry.slot (vote_of entry) ((tells (r.standings j).store (slot_in r)).only entry there).1)
    (at_most_of_below (r.standings j).store.promise (ballot_in r) (rest.above j h))

pub counted_low : (r : Round) → IsRest r → (j : ℕ) → In j r.members → (s : Standing) → AtMost s.seen (ballot_in r) → AtMost (seeing (promise_in r j) s).seen (ballot_in r)
counted_low r rest j h s low =
    highest_low s.seen (ballot_in r) (ballot_in r ∷ map (λ (entry : Entry). entry.ballot) (told_in r j)) low
    (λ b k. elim k [
      | inl e ↦ subst (λ (x : Ballot). AtMost x (ballot_in r)) (sym e) (at_most_self (ballot_in r))
      | inr t ↦ told_from_low (told_in r j) (ballot_in r) (told_low r rest j h) b t
    ])

-- with one promise more
abbrev pub with_counted : (r : Round) (counted : List ℕ) (s : Standing) → IsPreparing r counted s → ℕ → Standing
with_counted r counted s p j = record (seeing (promise_in r j) s) { campaign = Some (with_promise r.n p.campaign j (ballot_in r) (slot_in r) (told_in r j)) }

promise_taken : (r : Round) (counted : List ℕ) (s : Standing) (p : IsPreparing r counted s) (j : ℕ) → taking (place_at r r.i) j (promise_in r j) (seeing (promise_in r j) s) ≡ Ok (still (with_counted r counted s p j))
promise_taken r counted s p j =
    ap (λ (y : Option Campaign). let t : Result Turn Refusal = Ok (still (record (seeing (promise_in r j) s) { campaign = counting_from r.n y j (ballot_in r) (slot_in r) (told_in r j) })) in t) p.has

pub more_counted : (r : Round) → IsRest r → (counted : List ℕ) (s : Standing) (p : IsPreparing r counted s) (j : ℕ) → AreDistinct r.n counted → 2 * length counted ≤ r.n → (In j counted → ⊥) → j < r.n
    → IsCounted (ballot_in r) (slot_in r) (stores_in r) (j ∷ counted) (with_promise r.n p.campaign j (ballot_in r) (slot_in r) (told_in r j))
more_counted r rest counted s p j distinct less out low =
    counts_more r.n (ballot_in r) (slot_in r) (stores_in r) counted p.campaign j
    (quorum_is r.n (ballot_in r) (slot_in r) (stores_in r) counted p.campaign distinct p.counts ∙ le-ltb r.n (2 * length counted) less)
    (not_in counted j out) (let m = r.given.most_nodes r.n rest.few in omega arith) p.counts

pub preparing_more : (r : Round) → IsRest r → (counted : List ℕ) (s : Standing) (p : IsPreparing r counted s) (j : ℕ) → AreDistinct r.n counted → 2 * length counted ≤ r.n → (In j counted → ⊥) → j < r.n
    → In j r.members → IsPreparing r (j ∷ counted) (with_counted r counted s p j)
preparing_more r rest counted s p j distinct less out low member = record {
  up = p.up;
  campaign = with_promise r.n p.campaign j (ballot_in r) (slot_in r) (told_in r j);
  has = refl;
  counts = more_counted r rest counted s p j distinct less out low;
  store = p.store;
  learned = p.learned;
  pending = p.pending;
  seen = counted_low r rest j member s p.seen;
}

-- one that completes nothing
pub promise_turn : (r : Round) → IsRest r → (counted : List ℕ) (s : Standing) (p : IsPreparing r counted s) (j : ℕ) → AreDistinct r.n (j ∷ counted) → 2 * length counted ≤ r.n
    → 2 * length (j ∷ counted) ≤ r.n
    → on_message (place_at r r.i) j (promise_in r j) s
    ≡ Ok (joined (joined (still (with_counted r counted s p j)) (still (with_counted r counted s p j))) (asking j (promise_in r j) (with_counted r counted s p j)))
promise_turn r rest counted s p j distinct less still_less =
    message_turn (place_at r r.i) j (promise_in r j) s (still (with_counted r counted s p j)) (still (with_counted r counted s p j)) (promise_taken r counted s p j)
    (unled_close (place_at r r.i) (with_counted r counted s p j)
    (quorum_is r.n (ballot_in r) (slot_in r) (stores_in r) (j ∷ counted) (with_promise r.n p.campaign j (ballot_in r) (slot_in r) (told_in r j)) distinct
    (more_counted r rest counted s p j distinct.2 less distinct.1 distinct.0) ∙ le-ltb r.n (2 * length (j ∷ counted)) still_less))

-- ---- the one that completes

abbrev pub made_in : Round → AcceptRun
made_in r = record { ballot = ballot_in r; slot = slot_in r; commands = r.commands }

-- what a campaign that has all members' promises has for the slots from the front on
commands_are : (r : Round) → IsRest r → (counted : List ℕ) (k : Campaign) (own : Option Command) → IsCounted (ballot_in r) (slot_in r) (stores_in r) counted k
    → ((m : ℕ) → In m counted → In m r.members) → ((m : ℕ) → In m r.members → In m counted) → own ≡ own_value (place_at r r.i) (r.standings r.i)
    → (commands : List Command) → r.commands ≡ commands → commands_at r.n k (slot_in r) own ≡ commands
commands_are r rest counted k own c inside all own_is [] e = absurd (let some = rest.least in let none : length r.commands ≡ 0 = ap (λ (cs : List Command). length cs) e in omega (arith, some, none))
commands_are r rest counted k own c inside all own_is (command ∷ later) e = elim rest.value [
  | inl told ↦ by_told (subst (λ (cs : List Command). IsToldCommandRun r.standings r.members (slot_in r) cs) e told)
  | inr mine ↦ by_own mine.0 mine.1 mine.2
]
  where
    behind : List Command
    behind = told_commands r.n k (WINDOW - 1) (slot_in r + 1)

    by_told : IsToldCommandRun r.standings r.members (slot_in r) (command ∷ later) → commands_at r.n k (slot_in r) own ≡ command ∷ later
    by_told run =
        ap (λ (o : Option Entry). commands_of o behind own) told.told
        ∙ (ap (λ (d : Command). d ∷ behind) told.same
        ∙ ap (λ (l : List Command). command ∷ l) (told_are r.given r.n (ballot_in r) (slot_in r) r.standings r.members counted k c inside all rest.low rest.agree (WINDOW - 1) (slot_in r + 1) later
        (omega arith) (omega arith) (let end = run.slots in omega (arith, end)) (let most = run.most in omega (arith, most)) ends_later (let held = run.held in held.1)))
      where
        told : IsTold k (slot_in r) r.n command
        told = greatest_value r.given r.n (ballot_in r) (slot_in r) (slot_in r) r.standings r.members counted k command c inside all rest.low (omega arith) (omega arith) (rest.agree (slot_in r))
            (let held = run.held in held.0)

        ends_later : (length later ≡ WINDOW - 1) ⊎ ((slot_in r + 1 + length later ≡ SLOTS) ⊎ IsUnheld r.standings r.members (slot_in r + 1 + length later))
        ends_later = elim run.ends [
          | inl full ↦ inl (omega (arith, full))
          | inr other ↦ elim other [
            | inl last ↦ inr (inl (omega (arith, last)))
            | inr none ↦ inr (inr (let same : slot_in r + length (command ∷ later) ≡ slot_in r + 1 + length later = omega arith in subst (IsUnheld r.standings r.members) same none))
          ]
        ]

    by_own : (d : Command) → r.commands ≡ d ∷ [] → IsOwn (place_at r r.i) (r.standings r.i) r.standings r.members (slot_in r) d → commands_at r.n k (slot_in r) own ≡ command ∷ later
    by_own d is mine =
        ap (λ (o : Option Entry). commands_of o behind own) (none_held r.given r.n (ballot_in r) (slot_in r) (slot_in r) r.standings r.members counted k c inside mine.0)
        ∙ (ap alone (own_is ∙ mine.1) ∙ (sym is ∙ e))

-- what a campaign that has all members' promises proposes
pub proposes_it : (r : Round) → IsRest r → (counted : List ℕ) (k : Campaign) (own : Option Command) → AreDistinct r.n counted → IsCounted (ballot_in r) (slot_in r) (stores_in r) counted k
    → ((m : ℕ) → In m counted → In m r.members) → ((m : ℕ) → In m r.members → In m counted) → r.n < 2 * length counted → own ≡ own_value (place_at r r.i) (r.standings r.i)
    → run_by r.n k (slot_in r) own ≡ Ok (Some (made_in r))
proposes_it r rest counted k own distinct c inside all enough own_is =
    (λ j. if not (quorum j) then Ok None
    else if not (covers j) then Err OutOfWindow
    else if unmarked_slot j then Ok None
    else Ok (accept_run_of k (slot_in r) (commands_are r rest counted k own c inside all own_is r.commands refl j)))
    ∙ (ap (λ (o : Option AcceptRun). let x : Result (Option AcceptRun) ProposeFault = Ok o in x) (some_made k (slot_in r) r.commands (let some = rest.least in omega (arith, some)))
    ∙ ap (λ (b : Ballot). let x : Result (Option AcceptRun) ProposeFault = Ok (Some (record { ballot = b; slot = slot_in r; commands = r.commands })) in x) c.ballot_is)
  where
    quorum : has_quorum r.n k ≡ true
    quorum = quorum_is r.n (ballot_in r) (slot_in r) (stores_in r) counted k distinct c ∙ lt-ltb r.n (2 * length counted) enough

    covers : is_covered k.first (slot_in r) ≡ true
    covers = covered k.first (slot_in r) (let e = c.first_is in omega (arith, e)) (let e = c.first_is in omega (arith, e))

    unmarked_slot : is_proposed k (slot_in r) ≡ false
    unmarked_slot = ap (λ (l : List Bool). get_or l (slot_in r - k.first) false) c.unproposed ∙ all_same false WINDOW (slot_in r - k.first)

room_left : (r : Round) → IsRest r → nat_le SLOTS (slot_in r) ≡ false
room_left r rest = by_test (nat_le SLOTS (slot_in r)) refl
  where
    by_test : (b : Bool) → nat_le SLOTS (slot_in r) ≡ b → nat_le SLOTS (slot_in r) ≡ false
    by_test true e = absurd (let l = leb-true SLOTS (slot_in r) e in let k = rest.slot_left in omega arith)
    by_test false e = e

-- its own votes complete nothing
pub new_over : (r : Round) → IsRest r → (s : Standing) → s.learned ≡ (r.standings r.i).learned → PassesOver s.learned r.i (ballot_in r) (slot_in r) r.commands
new_over r rest s learned =
    subst (λ (l : Learned). PassesOver l r.i (ballot_in r) (slot_in r) r.commands) (sym learned)
    (new_votes_pass r.given r.n r.i (r.standings r.i).learned (rest.came r.i rest.member) (ballot_in r) (slot_in r) r.commands rest.few (rest.nodes r.i rest.member) (rest.counts r.i rest.member)
    (λ voter k c low high h. absurd (rest.unvoted r.i rest.member voter k c h)))

-- nothing is marked yet
pub none_marked : (k : Campaign) → k.proposed ≡ replicate WINDOW false → MarksSent [] k
none_marked k unproposed = record {
  places = ap (λ (l : List Bool). length l) unproposed;
  all = λ slot command h. absurd h;
  only = λ slot covers marked. absurd (true≢false (sym marked ∙ (ap (λ (l : List Bool). get_or l (slot - k.first) false) unproposed ∙ all_same false WINDOW (slot - k.first))));
}

proposal_fresh : (r : Round) → IsRest r → (s : Standing) (k : Campaign) → s.store ≡ promised (r.standings r.i).store (ballot_in r) → s.learned ≡ (r.standings r.i).learned → k.proposed ≡ replicate WINDOW false
    → run_by r.n k (front_of s) (own_value (place_at r r.i) s) ≡ Ok (Some (made_in r)) → Fresh (place_at r r.i) s k (made_in r)
proposal_fresh r rest s k store learned unmarked_all e = record {
  quorum = tests.leads;
  covered = covered k.first (front_of s) tests.low tests.high;
  marked = marked_at r.given r.n [] k (front_of s) (own_value (place_at r r.i) s) (made_in r) (none_marked k unmarked_all) e tests.ballot (front_of s)
      (let at = tests.begins in omega (arith, at)) (let at = tests.begins in let some = rest.least in omega (arith, at, some));
  whole = r.given.command_run_whole s.store (ballot_in r) (slot_in r) r.commands
      (λ m low high. ap (λ (st : Store). is_of_ballot (st.votes m) (ballot_in r)) store ∙ unvoted_slot r rest r.i rest.member m);
  over = new_over r rest s learned;
}
  where
    tests : PassedRun r.n k (front_of s) (own_value (place_at r r.i) s) (made_in r)
    tests = passed_run r.n k (front_of s) (own_value (place_at r r.i) s) (made_in r) e

abbrev pub completed_turn : (r : Round) (counted : List ℕ) (s : Standing) → IsPreparing r counted s → ℕ → Turn
completed_turn r counted s p j = turn_made (place_at r r.i) (with_counted r counted s p j) (with_promise r.n p.campaign j (ballot_in r) (slot_in r) (told_in r j)) (made_in r)

-- what node i proposes then, and how its turn looks
pub completed_run : (r : Round) → IsRest r → (counted : List ℕ) (s : Standing) (p : IsPreparing r counted s) (j : ℕ) → AreDistinct r.n (j ∷ counted) → 2 * length counted ≤ r.n
    → ((m : ℕ) → In m (j ∷ counted) → In m r.members) → ((m : ℕ) → In m r.members → In m (j ∷ counted)) → r.n < 2 * length (j ∷ counted)
    → run_by r.n (with_promise r.n p.campaign j (ballot_in r) (slot_in r) (told_in r j)) (front_of (with_counted r counted s p j)) (own_value (place_at r r.i) (with_counted r counted s p j)) ≡ Ok (Some (made_in r))
completed_run r rest counted s p j distinct less inside all enough =
    ap (λ (l : Learned). run_by r.n k (front l.log) (own_value (place_at r r.i) u)) p.learned
    ∙ proposes_it r rest (j ∷ counted) k (own_value (place_at r r.i) u) distinct (more_counted r rest counted s p j distinct.2 less distinct.1 distinct.0) inside all enough
    (own_same (place_at r r.i) u (r.standings r.i) p.learned p.pending)
  where
    u : Standing
    u = with_counted r counted s p j

    k : Campaign
    k = with_promise r.n p.campaign j (ballot_in r) (slot_in r) (told_in r j)

pub completing_turn : (r : Round) → IsRest r → (counted : List ℕ) (s : Standing) (p : IsPreparing r counted s) (j : ℕ) → AreDistinct r.n (j ∷ counted) → 2 * length counted ≤ r.n
    → ((m : ℕ) → In m (j ∷ counted) → In m r.members) → ((m : ℕ) → In m r.members → In m (j ∷ counted)) → r.n < 2 * length (j ∷ counted)
    → on_message (place_at r r.i) j (promise_in r j) s
    ≡ Ok (joined (joined (still (with_counted r counted s p j)) (completed_turn r counted s p j)) (asking j (promise_in r j) (completed_turn r counted s p j).after))
completing_turn r rest counted s p j distinct less inside all enough =
    message_turn (place_at r r.i) j (promise_in r j) s (still u) (completed_turn r counted s p j) (promise_taken r counted s p j)
    (made_close (place_at r r.i) u k (made_in r) (ap (λ (l : Learned). nat_le SLOTS (front l.log)) p.learned ∙ room_left r rest) refl proposal
    (proposal_fresh r rest u k p.store p.learned (let c = more_counted r rest counted s p j distinct.2 less distinct.1 distinct.0 in c.unproposed) proposal))
  where
    u : Standing
    u = with_counted r counted s p j

    k : Campaign
    k = with_promise r.n p.campaign j (ballot_in r) (slot_in r) (told_in r j)

    proposal : run_by r.n (with_promise r.n p.campaign j (ballot_in r) (slot_in r) (told_in r j)) (front_of (with_counted r counted s p j)) (own_value (place_at r r.i) (with_counted r counted s p j)) ≡ Ok (Some (made_in r))
    proposal = completed_run r rest counted s p j distinct less inside all enough

-- ---- an Accept

abbrev pub accept_in : Round → Wire
accept_in r = frame.Accept (ballot_in r) (slot_in r) r.commands

abbrev pub accepted_in : Round → Wire
accepted_in r = frame.Accepted (ballot_in r) (slot_in r) r.commands

-- what another member is once it promised
pub record HasPromised (r : Round) (j : ℕ) (s : Standing) : Type 0 where
  pub up : s.up ≡ true
  pub store : s.store ≡ promised (r.standings j).store (ballot_in r)
  pub learned : s.learned ≡ (r.standings j).learned

abbrev pub accepted_turn : Round → ℕ → Standing → Turn
accepted_turn r j s =
    let x : Standing = with_stored (idle (seeing (accept_in r) s)) (taking_command_run s.store (ballot_in r) (slot_in r) r.commands) in
    joined (sending (to_others (place_at r j) (accepted_in r)) x) (still (record x { learned = hearing_run s.learned j (ballot_in r) (slot_in r) r.commands }))

-- it takes all of the commands
pub accept_turn : (r : Round) → IsRest r → (j : ℕ) (h : In j r.members) (s : Standing) → HasPromised r j s
    → on_message (place_at r j) r.i (accept_in r) s
    ≡ Ok (joined (joined (accepted_turn r j s) (still (accepted_turn r j s).after)) (asking r.i (accept_in r) (accepted_turn r j s).after))
accept_turn r rest j h s p =
    message_turn (place_at r j) r.i (accept_in r) s (accepted_turn r j s) (still (accepted_turn r j s).after)
    (ap (λ (b : Bool). if b then Ok (refusing r.i (ballot_in r) (slot_in r) (seeing (accept_in r) s)) else voting (place_at r j) (ballot_in r) (slot_in r) r.commands (idle (seeing (accept_in r) s)))
    (ap (λ (st : Store). is_below (ballot_in r) st.promise) p.store ∙ not_below_self (ballot_in r))
    ∙ voting_is (place_at r j) (ballot_in r) (slot_in r) r.commands (idle (seeing (accept_in r) s))
    (r.given.command_run_whole s.store (ballot_in r) (slot_in r) r.commands (λ m low high. ap (λ (st : Store). is_of_ballot (st.votes m) (ballot_in r)) p.store ∙ unvoted_slot r rest j h m))
    (subst (λ (l : Learned). PassesOver l j (ballot_in r) (slot_in r) r.commands) (sym p.learned)
    (new_votes_pass r.given r.n j (r.standings j).learned (rest.came j h) (ballot_in r) (slot_in r) r.commands rest.few (rest.nodes j h) (rest.counts j h)
    (λ voter k c low high v. absurd (rest.unvoted j h voter k c v)))))
    (unled_close (place_at r j) (accepted_turn r j s).after refl)

-- ---- an Accepted

-- what node i is once it proposed, with these nodes' votes counted
pub record IsLeading (r : Round) (voters : List ℕ) (s : Standing) : Type 0 where
  pub up : s.up ≡ true
  pub campaign : Campaign
  pub has : s.campaign ≡ Some campaign
  pub ballot : campaign.ballot ≡ ballot_in r
  pub covers : is_covered campaign.first (slot_in r) ≡ true
  pub marked : is_proposed campaign (slot_in r) ≡ true
  pub sent : List Message
  pub marks : MarksSent sent campaign
  pub votes : (k : ℕ) (v : Vote) → s.store.votes k ≡ Some v → (k < slot_in r) ⊎ (slot_in r + length r.commands ≤ k) → v.ballot ≡ ballot_in r → ⊥
  pub seen : AtMost s.seen (ballot_in r)
  pub promise : s.store.promise ≡ ballot_in r
  pub log : s.learned.log ≡ (r.standings r.i).learned.log
  pub nodes : s.learned.nodes ≡ r.n
  pub more : List Message
  pub counts : Counts more s.learned
  pub voted_in : (m : ℕ) → In m voters → Within (answers m (ballot_in r) (slot_in r) r.commands) more
  pub only : (voter k : ℕ) (c : Command) → In (Accepted voter (ballot_in r) k c) more → (slot_in r ≤ k) × (k < slot_in r + length r.commands) × In voter voters

pub are_ahead : (r : Round) → IsRest r → (l : Learned) → l.log ≡ (r.standings r.i).learned.log → (k : ℕ) → slot_in r ≤ k → k < slot_in r + length r.commands → IsOpen l.log k
are_ahead r rest l e k low high =
    subst (λ (y : Log). IsOpen y k) (sym e)
    (record { reached = low; within = (let most = rest.most in omega (arith, high, most)); is_slot = (let end = rest.slots in omega (arith, high, end)) })

-- none of the votes is refused, since nothing else is known at their slots
pub are_taken : (r : Round) → IsRest r → (l : Learned) → l.log ≡ (r.standings r.i).learned.log → (voter : ℕ) → IsOk (answer_to_run l voter (ballot_in r) (slot_in r) r.commands)
are_taken r rest l e voter =
    run_ok_if l voter (ballot_in r) (slot_in r) r.commands
    (all_taken r.given l voter (ballot_in r) (slot_in r) r.commands (subst (λ (y : Log). KnowsOnly y (slot_in r) r.commands) (sym e) rest.known_so))

-- the votes with those of one node more
pub more_votes : (r : Round) → IsRest r → (voters : List ℕ) (s : Standing) (p : IsLeading r voters s) (j : ℕ) → j < r.n
    → GrowsByEach p.more s.learned (hearing_run s.learned j (ballot_in r) (slot_in r) r.commands) j (ballot_in r) (slot_in r) r.commands
more_votes r rest voters s p j low =
    votes_grow r.given p.more s.learned j (ballot_in r) (slot_in r) r.commands (subst IsLog (sym p.log) (rest.log r.i rest.member)) (subst (λ (k : ℕ). j < k) (sym p.nodes) low)
    rest.most (are_taken r rest s.learned p.log j) p.counts

-- a vote of the ballot is of one of these nodes, at one of the slots
more_only : (r : Round) (came more : List Message) (l new : Learned) (j : ℕ) (grows : GrowsByEach came l new j (ballot_in r) (slot_in r) r.commands) (voters : List ℕ)
    → ((voter k : ℕ) (c : Command) → In (Accepted voter (ballot_in r) k c) came → (slot_in r ≤ k) × (k < slot_in r + length r.commands) × In voter voters)
    → (voter k : ℕ) (c : Command) → In (Accepted voter (ballot_in r) k c) grows.grows.more → (slot_in r ≤ k) × (k < slot_in r + length r.commands) × In voter (j ∷ voters)
more_only r came more l new j grows voters only voter k c h = elim (grows.only (Accepted voter (ballot_in r) k c) h) [
  | inl one ↦ (let at = (r.given.in_answers j voter (ballot_in r) (ballot_in r) (slot_in r) k c r.commands).0 one in (at.2, at.3, inl at.0))
  | inr old ↦ (let o = only voter k c old in (o.0, o.1, inr o.2))
]

abbrev pub with_heard_vote : (r : Round) (s : Standing) → ℕ → Standing
with_heard_vote r s j = record (seeing (accepted_in r) s) { learned = hearing_run s.learned j (ballot_in r) (slot_in r) r.commands }

heard_low : (r : Round) (s : Standing) → AtMost s.seen (ballot_in r) → AtMost (seeing (accepted_in r) s).seen (ballot_in r)
heard_low r s low = highest_low s.seen (ballot_in r) (ballot_in r ∷ []) low (λ b k. elim k [ inl e ↦ subst (λ (x : Ballot). AtMost x (ballot_in r)) (sym e) (at_most_self (ballot_in r)) | inr none ↦ absurd none ])

-- too few votes complete nothing
too_few : (r : Round) → IsRest r → (voters : List ℕ) (s : Standing) (p : IsLeading r voters s) (j : ℕ) → AreDistinct r.n (j ∷ voters) → 2 * length (j ∷ voters) ≤ r.n
    → PassesOver s.learned j (ballot_in r) (slot_in r) r.commands
too_few r rest voters s p j distinct less =
    passes_over r.given s.learned p.more j (ballot_in r) (slot_in r) r.commands (let counts = p.counts in counts.counts_from) (λ k c low high chosen. few_chosen k c (subst (λ (n : ℕ). IsChosenIn n (Accepted j (ballot_in r) k c ∷ p.more) (ballot_in r) k c) p.nodes chosen))
  where
    among : (k : ℕ) (c : Command) (voter : ℕ) → In (Accepted voter (ballot_in r) k c) (Accepted j (ballot_in r) k c ∷ p.more) → In voter (j ∷ voters)
    among k c voter (inl e) = inl (let same : voter ≡ j = cc in same)
    among k c voter (inr h) = inr (p.only voter k c h).2

    few_chosen : (k : ℕ) (c : Command) → IsChosenIn r.n (Accepted j (ballot_in r) k c ∷ p.more) (ballot_in r) k c → ⊥
    few_chosen k c (quorum, most, votes) =
        let l = count_within quorum (is_in (j ∷ voters)) r.n (λ m below is. in_is (j ∷ voters) m (among k c m (votes m below is))) in
        let e = count_list r.n (j ∷ voters) distinct in omega (arith, l, e, most)

pub accepted_goes : (r : Round) → IsRest r → (voters : List ℕ) (s : Standing) (p : IsLeading r voters s) (j : ℕ) → AreDistinct r.n (j ∷ voters) → 2 * length (j ∷ voters) ≤ r.n
    → on_message (place_at r r.i) j (accepted_in r) s
    ≡ Ok (joined (joined (still (with_heard_vote r s j)) (still (with_heard_vote r s j))) (asking j (accepted_in r) (with_heard_vote r s j)))
accepted_goes r rest voters s p j distinct less =
    message_turn (place_at r r.i) j (accepted_in r) s (still (with_heard_vote r s j)) (still (with_heard_vote r s j))
    (counted_is (place_at r r.i) j (ballot_in r) (slot_in r) r.commands (seeing (accepted_in r) s) over)
    (quiet_close (place_at r r.i) (with_heard_vote r s j) (ap (λ (l : Log). nat_le SLOTS (front l)) same ∙ room_left r rest)
    (ap (λ (y : Option Campaign). run_from_campaign r.n y (front_of (with_heard_vote r s j)) (own_value (place_at r r.i) (with_heard_vote r s j))) p.has
    ∙ (ap (λ (l : Log). run_by r.n p.campaign (front l) (own_value (place_at r r.i) (with_heard_vote r s j))) same
    ∙ marked_none r.n p.campaign (slot_in r) (own_value (place_at r r.i) (with_heard_vote r s j)) p.covers p.marked)))
  where
    over : PassesOver s.learned j (ballot_in r) (slot_in r) r.commands
    over = too_few r rest voters s p j distinct less

    same : (hearing_run s.learned j (ballot_in r) (slot_in r) r.commands).log ≡ (r.standings r.i).learned.log
    same = over.log ∙ p.log

pub leading_more : (r : Round) → IsRest r → (voters : List ℕ) (s : Standing) (p : IsLeading r voters s) (j : ℕ) → AreDistinct r.n (j ∷ voters) → 2 * length (j ∷ voters) ≤ r.n
    → IsLeading r (j ∷ voters) (with_heard_vote r s j)
leading_more r rest voters s p j distinct less = record {
  up = p.up;
  campaign = p.campaign;
  has = p.has;
  ballot = p.ballot;
  covers = p.covers;
  marked = p.marked;
  sent = p.sent;
  marks = p.marks;
  votes = p.votes;
  seen = heard_low r s p.seen;
  promise = p.promise;
  log = (too_few r rest voters s p j distinct less).log ∙ p.log;
  nodes = r.given.run_nodes s.learned j (ballot_in r) (slot_in r) r.commands ∙ p.nodes;
  more = grows.grows.more;
  counts = grows.grows.counts;
  voted_in = λ m h o inside. voted m h o inside;
  only = more_only r p.more grows.grows.more s.learned (hearing_run s.learned j (ballot_in r) (slot_in r) r.commands) j grows voters p.only;
}
  where
    grows : GrowsByEach p.more s.learned (hearing_run s.learned j (ballot_in r) (slot_in r) r.commands) j (ballot_in r) (slot_in r) r.commands
    grows = more_votes r rest voters s p j distinct.0

    voted : (m : ℕ) → In m (j ∷ voters) → Within (answers m (ballot_in r) (slot_in r) r.commands) grows.grows.more
    voted m (inl e) = subst (λ (k : ℕ). Within (answers k (ballot_in r) (slot_in r) r.commands) grows.grows.more) (sym e)
        (answers_had r.given p.more s.learned (hearing_run s.learned j (ballot_in r) (slot_in r) r.commands) j (ballot_in r) (slot_in r) r.commands grows (are_ahead r rest s.learned p.log))
    voted m (inr before) = λ o inside. grows.grows.kept o (p.voted_in m before o inside)

-- ---- the vote that completes

-- what is known once it is heard
pub record HasLearned (r : Round) (l : Learned) : Type 0 where
  pub passed : slot_in r + length r.commands ≤ front l.log
  pub known : AreKnown l.log (slot_in r) r.commands

pub has_learned : (r : Round) → IsRest r → (voters : List ℕ) (s : Standing) (p : IsLeading r voters s) (j : ℕ) → j < r.n → ((m : ℕ) → In m r.members → In m (j ∷ voters))
    → HasLearned r (hearing_run s.learned j (ballot_in r) (slot_in r) r.commands)
has_learned r rest voters s p j low all =
    subst (HasLearned r) (sym (heard_run s.learned j (ballot_in r) (slot_in r) r.commands (are_taken r rest s.learned p.log j)))
    (let heard = all_heard r.given r.n r.members rest.quorum j (ballot_in r) (slot_in r) r.commands s.learned p.more low rest.slots (record {
      log = subst IsLog (sym p.log) (rest.log r.i rest.member);
      nodes = p.nodes;
      counts = p.counts;
      only = subst (λ (y : Log). KnowsOnly y (slot_in r) r.commands) (sym p.log) rest.known_so;
      passed = (let same = ap (λ (y : Log). front y) p.log in omega (arith, same));
    }) (λ m h. elim (all m h) [ inl e ↦ inl e | inr before ↦ inr (p.voted_in m before) ]) in
    record { passed = heard.0; known = heard.1 })

same_campaign : (a b : Campaign) → ◌≡◌ {A = Option Campaign} (Some a) (Some b) → a ≡ b
same_campaign a b e = cc

-- the turn, which may propose further on
pub record LastTurn (r : Round) (s : Standing) (j : ℕ) : Type 0 where
  pub turn : Turn
  pub goes : on_message (place_at r r.i) j (accepted_in r) s ≡ Ok turn
  pub learned : HasLearned r turn.after.learned
  pub seen : AtMost turn.after.seen (ballot_in r)
  pub promise : turn.after.store.promise ≡ ballot_in r

pub last_turn : (r : Round) → IsRest r → (voters : List ℕ) (s : Standing) (p : IsLeading r voters s) (j : ℕ) → j < r.n → ((m : ℕ) → In m r.members → In m (j ∷ voters)) → LastTurn r s j
last_turn r rest voters s p j low all = record {
  turn = joined (joined t c.turn) (asking j (accepted_in r) c.turn.after);
  goes = message_turn (place_at r r.i) j (accepted_in r) s t c.turn
      (learning_ok (place_at r r.i) (answer_to_run s.learned j (ballot_in r) (slot_in r) r.commands) new (seeing (accepted_in r) s) (are_taken r rest s.learned p.log j))
      c.closes_so;
  learned = subst (λ (y : Standing). HasLearned r y.learned) (sym (asked_same j (accepted_in r) c.turn.after)) (record {
    passed = subst (λ (y : Log). slot_in r + length r.commands ≤ front y) (sym c.same_log) l.passed;
    known = subst (λ (y : Log). AreKnown y (slot_in r) r.commands) (sym c.same_log) l.known;
  });
  seen = subst (λ (b : Ballot). AtMost b (ballot_in r)) (sym (ap (λ (y : Standing). y.seen) (asked_same j (accepted_in r) c.turn.after) ∙ c.same_seen)) (heard_low r s p.seen);
  promise = ap (λ (y : Standing). y.store.promise) (asked_same j (accepted_in r) c.turn.after) ∙ (elim c.promise [
    | inl same ↦ same ∙ p.promise
    | inr new ↦ new.2 ∙ (ap (λ (k : Campaign). k.ballot) (same_campaign new.0 p.campaign (sym new.1 ∙ p.has)) ∙ p.ballot)
  ]);
}
  where
    new : Learned
    new = hearing_run s.learned j (ballot_in r) (slot_in r) r.commands

    t : Turn
    t = applying (place_at r r.i) (hearing_run s.learned j (ballot_in r) (slot_in r) r.commands) (seeing (accepted_in r) s)

    l : HasLearned r (hearing_run s.learned j (ballot_in r) (slot_in r) r.commands)
    l = has_learned r rest voters s p j low all

    grows : GrowsByEach p.more s.learned (hearing_run s.learned j (ballot_in r) (slot_in r) r.commands) j (ballot_in r) (slot_in r) r.commands
    grows = more_votes r rest voters s p j low

    fresh_if : (made : AcceptRun) → run_by r.n p.campaign (front new.log) (own_value (place_at r r.i) t.after) ≡ Ok (Some made) → Fresh (place_at r r.i) t.after p.campaign made
    fresh_if made e = record {
      quorum = tests.leads;
      covered = covered p.campaign.first (front new.log) tests.low tests.high;
      marked = marked_at r.given r.n p.sent p.campaign (front new.log) (own_value (place_at r r.i) t.after) made p.marks e tests.ballot (front new.log)
          (let at = tests.begins in omega (arith, at)) (let at = tests.begins in let some = tests.least in omega (arith, at, some));
      whole = r.given.command_run_whole s.store made.ballot made.slot made.commands
          (λ k low high. none_of_ballot (s.store.votes k) made.ballot (λ w ew same. p.votes k w ew (inr (beyond k low)) (same ∙ (tests.ballot ∙ p.ballot))));
      over = new_votes_pass r.given r.n r.i new grows.grows.more made.ballot made.slot made.commands rest.few (r.given.run_nodes s.learned j (ballot_in r) (slot_in r) r.commands ∙ p.nodes) grows.grows.counts
          (λ voter k d low high h. absurd (inside voter k d low
          (subst (λ (b : Ballot). In (Accepted voter b k d) grows.grows.more) (tests.ballot ∙ p.ballot) h)));
    }
      where
        tests : PassedRun r.n p.campaign (front new.log) (own_value (place_at r r.i) t.after) made
        tests = passed_run r.n p.campaign (front new.log) (own_value (place_at r r.i) t.after) made e

        beyond : (k : ℕ) → made.slot ≤ k → slot_in r + length r.commands ≤ k
        beyond k low = let at = tests.begins in let passed = l.passed in omega (arith, at, passed, low)

        inside : (voter k : ℕ) (d : Command) → made.slot ≤ k → In (Accepted voter (ballot_in r) k d) grows.grows.more → ⊥
        inside voter k d low h =
            let o = more_only r p.more grows.grows.more s.learned (hearing_run s.learned j (ballot_in r) (slot_in r) r.commands) j grows voters p.only voter k d h in
            let far = beyond k low in
            let near = o.1 in omega (arith, far, near)

    c : ClosesSo (place_at r r.i) t.after
    c = total_close r.given (place_at r r.i) t.after p.campaign p.has fresh_if
