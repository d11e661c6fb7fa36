-- The close of a call, on its path.
use Rattle.std.proofs.Common.{◌≡◌, ℕ, ◌<◌, ◌≤◌, ◌+◌, ◌⊎◌, inl, inr, Bool, true, false, true≢false, not, if◌then◌else◌, ◌&&◌, List, ◌++◌, Option, Some, None, Result, Ok, Err, refl, sym, ap, subst, ◌∙◌, arith, length, append_assoc}
use Rattle.std.specs.Prelude.{nat_lt, nat_le}
use Rattle.std.specs.Option.{option_map}
use Rattle.std.proofs.lemmas.Bool.{ltb-true, ltb-false, leb-true, and_parts}
use Rattle.std.proofs.lemmas.List.{append-nil}
use Rattle.std.proofs.lemmas.Option.{same_Some}
use Rattle.paxos_wire.specs.declared.limits.TheConstants.{SLOTS, WINDOW}
use Rattle.paxos_wire.specs.declared.ballot.Ballot.{Ballot}
use Rattle.paxos_wire.specs.declared.message.Message.TheVariants as frame
use Rattle.slot_log.specs.Slots.{front}
use Rattle.slot_log.specs.Dealer.{finished_count}
use Rattle.slot_log.specs.declared.command.Command.{Command}
use Rattle.slot_log.specs.declared.command.Command.TheVariants.{Deal}
use Rattle.protocol_model.specs.Sets.{In}
use Rattle.protocol_model.specs.Ballots.{AtMost}
use Rattle.protocol_model.specs.Messages.{Vote, Message, Prepare, Accept}
use Rattle.protocol_model.specs.Quorums.{IsFree}
use Rattle.protocol_model.specs.Frames.{proposals, answers}
use Rattle.protocol_model.specs.CommandRuns.{proposed, answered, sending_all}
use Rattle.protocol_model.specs.Stores.{Store}
use Rattle.protocol_model.specs.Dealers.{Dealer}
use Rattle.protocol_model.specs.Nodes.{Node}
use Rattle.protocol_model.specs.Arrivals.{Arrival}
use Rattle.protocol_model.specs.Moves.{Chain, none as no_move, more, nothing, sending as sends, with_store, with_sent, proposes, IsAtHand, MayPropose}
use Rattle.proposer.specs.declared.accept_run.AcceptRun.{AcceptRun}
use Rattle.proposer.specs.declared.campaign.Campaign.{Campaign}
use Rattle.proposer.specs.declared.fault.ProposeFault.{ProposeFault}
use Rattle.proposer.specs.declared.fault.ProposeFault.TheVariants.{OutOfWindow}
use Rattle.proposer.specs.Campaigns.{has_quorum, leads, is_covered, is_proposed}
use Rattle.proposer.specs.CommandRuns.{commands_at, accept_run_of, run_by, run_from_campaign, with_marks, marked_run_from}
use Rattle.proposer.specs.CommandRunLaws.{IsSafeCommandRun}
use Rattle.paxos_wire.specs.Order.{is_same_ballot}
use Rattle.proposer.specs.Counted.{CountsFrom, CountsAll}
use Rattle.dealer_kind.specs.Kind.{fits}
use Rattle.node_rules.specs.Standings.{Place, Standing, applied, front_of, hands_at, with_stored, idle}
use Rattle.node_rules.specs.Sending.{Frame, to_others}
use Rattle.node_rules.specs.Showing.{Piece}
use Rattle.node_rules.specs.Turns.{Turn, Refusal, still, sending, joined, behind}
use Rattle.protocol_model.specs.Votes.{is_of_ballot, is_voted, command_run_at, taking_command_run}
use Rattle.node_rules.specs.Learning.{counting_votes}
use Rattle.node_rules.specs.Seen.{ballots_in, Sees}
use Rattle.node_rules.specs.Proposing.{own_deal, fitting, own_value, proposing, closing_by, proposal_at, closing}
use Rattle.node_rules.specs.Being.{Campaigns, IsCampaign, Stands, IsProposer, IsPending, Knows}
use Rattle.node_rules.specs.Called.{Carry, CarryAll, AreShown, log_after}
use Rattle.protocol_model.proofs.Sets.{in_first, in_later, in_split}
use Rattle.node_rules.proofs.Carrying.{joined_carry, joined_all}
use Rattle.protocol_model.proofs.Ballots.{at_most_self, same_if}
use Rattle.node_rules.proofs.Keeping.{IsNoAnswer, IsQuiet, sent_all_knows, pending_all, stored_pending}
use Rattle.node_rules.specs.Given.{Given}
use Rattle.node_rules.proofs.Paths.{Hearing, Scope, dealer_in, first_in, Path, Goes, regroup, three_in}
use Rattle.node_rules.proofs.Steps.{go_on}
use Rattle.node_rules.proofs.Together.{with_got_each, LeadsAll, AreLow, own_knows, own_chain, get_own_all, in_answered, answered_is, proposal_carry, proposal_all}
use Rattle.node_rules.proofs.Voting.{low_votes}
use Rattle.node_rules.proofs.OwnRuns.{unmarked, proposal_is, proposed_is, in_proposed, at_slot, in_or_out, IsSource, source_once, promise_is, votes_at, votes_outside, run_proposed}
use Rattle.node_rules.proofs.Learning.{count}
use Rattle.node_rules.proofs.Asking.{joined_assoc, with_campaign}
use Rattle.node_rules.proofs.Proposed.{accept_is}

-- ---- what the node has of its own

own_by : (x : Scope) (s : Standing) (hand : ℕ) (deal : Option (List ℕ)) → x.place.deals hand ≡ deal → (command : Command) → option_map (Deal hand) deal ≡ Some command
    → x.own x.place.node command ≡ true
own_by x s hand None e command h = absurd (cc)
own_by x s hand (Some deal) e command h = let same : Deal hand deal ≡ command = cc in subst (λ (c : Command). x.own x.place.node c ≡ true) same (x.is_place.owns hand deal e)

pending_is : (d : Dealer) (i : ℕ) (node : Node) (upto : List Command) (act : Option Command) (command : Command) → act ≡ Some command → IsPending d i node upto act
    → IsAtHand d i node command × (d.fits upto command ≡ true)
pending_is d i node upto None command e h = absurd (cc)
pending_is d i node upto (Some act) command e h = let same : act ≡ command = cc in subst (λ (c : Command). IsAtHand d i node c × (d.fits upto c ≡ true)) same h

value_by : (x : Scope) (s : Standing) (node : Node) (deal : Option Command) (b : Bool) (command : Command)
    → ((c : Command) → deal ≡ Some c → x.own x.place.node c ≡ true) → (c : Command) → deal ≡ Some c → fits x.place.setting (applied s) c ≡ b
    → (if b then Some c else s.pending) ≡ Some command → IsPending (dealer_in x) x.place.node node (applied s) s.pending
    → IsAtHand (dealer_in x) x.place.node node command × (fits x.place.setting (applied s) command ≡ true)
value_by x s node deal true command owns c e f h pending =
    let same : c ≡ command = cc in
    (inl (subst (λ (k : Command). x.own x.place.node k ≡ true) same (owns c e)), subst (λ (k : Command). fits x.place.setting (applied s) k ≡ true) same f)
value_by x s node deal false command owns c e f h pending = pending_is (dealer_in x) x.place.node node (applied s) s.pending command h pending

value_from : (x : Scope) (s : Standing) (node : Node) (deal : Option Command) (command : Command) → ((c : Command) → deal ≡ Some c → x.own x.place.node c ≡ true)
    → fitting x.place s deal s.pending ≡ Some command → IsPending (dealer_in x) x.place.node node (applied s) s.pending
    → IsAtHand (dealer_in x) x.place.node node command × (fits x.place.setting (applied s) command ≡ true)
value_from x s node None command owns h pending = pending_is (dealer_in x) x.place.node node (applied s) s.pending command h pending
value_from x s node (Some c) command owns h pending = value_by x s node (Some c) (fits x.place.setting (applied s) c) command owns c refl refl h pending

-- the own value is at hand, and fits
value_is : (x : Scope) (s : Standing) (node : Node) (command : Command) → own_value x.place s ≡ Some command → IsPending (dealer_in x) x.place.node node (applied s) s.pending
    → IsAtHand (dealer_in x) x.place.node node command × (fits x.place.setting (applied s) command ≡ true)
value_is x s node command h pending =
    let hand : ℕ = finished_count x.place.setting.game (hands_at x.place s) in
    value_from x s node (own_deal x.place s) command (λ c e. own_by x s hand (x.place.deals hand) refl c e) h pending

-- ---- giving up

idle_proposer : (n i : ℕ) (node : Node) (front : ℕ) (c : Option Campaign)
    → ((b : Ballot) (f : ℕ) → Stands node b f → front < f + WINDOW → front < SLOTS → ⊥) → IsProposer n i node front c → IsProposer n i node front None
idle_proposer n i node front c none p = record {
  is_campaign = tt;
  began = p.began;
  proposed = p.proposed;
  stands = λ b f st near left. absurd (none b f st near left);
}

rest : (x : Scope) (came : List Arrival) (heard : Hearing) (t : Turn) (p : Path x came heard (applied t.after) t)
    → ((b : Ballot) (f : ℕ) → Stands p.node b f → front_of t.after < f + WINDOW → front_of t.after < SLOTS → ⊥)
    → Path x came heard (applied t.after) (joined t (still (idle t.after)))
rest x came heard t p none =
    go_on x came heard (applied t.after) (record t { after = idle t.after })
    (with_campaign x came heard (applied t.after) t None p
    (idle_proposer x.place.nodes x.place.node p.node (front_of t.after) t.after.campaign none p.knows.proposer))

-- ---- a proposal

-- the campaign that made it
pub record IsMade (place : Place) (s : Standing) (c : Campaign) (made : AcceptRun) : Type 0 where
  pub has : s.campaign ≡ Some c
  pub made_so : run_by place.nodes c (front_of s) (own_value place s) ≡ Ok (Some made)

pub made_by : (place : Place) (s : Standing) (made : AcceptRun) (c : Option Campaign) → s.campaign ≡ c → run_from_campaign place.nodes c (front_of s) (own_value place s) ≡ Ok (Some made)
    → (found : Campaign) × IsMade place s found made
made_by place s made None e h = absurd (cc)
made_by place s made (Some c) e h = (c, record { has = e; made_so = h })

pub campaigns_of : (n i : ℕ) (node : Node) (c : Option Campaign) (found : Campaign) → c ≡ Some found → IsCampaign n i node c → Campaigns n i node found
campaigns_of n i node None found e h = absurd (cc)
campaigns_of n i node (Some c) found e h = subst (Campaigns n i node) (same_Some c found e) h

pub none_of_ballot : (held : Option Vote) (ballot : Ballot) → ((v : Vote) → held ≡ Some v → v.ballot ≡ ballot → ⊥) → is_of_ballot held ballot ≡ false
none_of_ballot None ballot none = refl
none_of_ballot (Some v) ballot none = by_test (is_same_ballot v.ballot ballot) refl
  where
    by_test : (b : Bool) → is_same_ballot v.ballot ballot ≡ b → is_same_ballot v.ballot ballot ≡ false
    by_test true e = absurd (none v refl (same_if v.ballot ballot e))
    by_test false e = e

-- it is of the node's own ballot, which is promised, and begins at its front; its commands are told ones, or one of the node's own; at its slots nothing
-- was proposed or stored in the ballot, so that it is taken whole
pub record IsOwnRun (place : Place) (s : Standing) (node : Node) (c : Campaign) (made : AcceptRun) : Type 0 where
  pub camp : Campaigns place.nodes place.node node c
  pub ballot : made.ballot ≡ c.ballot
  pub slot : made.slot ≡ front_of s
  pub least : 1 ≤ length made.commands
  pub most : length made.commands ≤ WINDOW
  pub slots : front_of s < SLOTS → made.slot + length made.commands ≤ SLOTS
  pub source : IsSource place.nodes node.has node.sent (own_value place s) made.ballot made.slot made.commands
  pub mine : made.ballot.node ≡ place.node
  pub promised : node.store.promise ≡ made.ballot
  pub unvoted : (k : ℕ) → made.slot ≤ k → k < made.slot + length made.commands → is_voted s.store made.ballot k ≡ false
  pub whole : command_run_at s.store made.ballot made.slot made.commands ≡ made.commands

pub own_run : (x : Scope) (came : List Arrival) (heard : Hearing) (t : Turn) (p : Path x came heard (applied t.after) t) (c : Campaign) (made : AcceptRun)
    → IsMade x.place t.after c made → IsOwnRun x.place t.after p.node c made
own_run x came heard t p c made is = record {
  camp = camp;
  ballot = safe.ballot;
  slot = safe.begins;
  least = safe.least;
  most = (let low = safe.low in let high = safe.high in omega (arith, low, high));
  slots = λ left. (let at = safe.begins in let end = safe.slots left in omega (arith, at, end));
  source = source;
  mine = ap (λ (b : Ballot). b.node) safe.ballot ∙ camp.own;
  promised = camp.promised ∙ sym safe.ballot;
  unvoted = unvoted;
  whole = x.given.command_run_whole t.after.store made.ballot made.slot made.commands unvoted;
}
  where
    own : Option Command
    own = own_value x.place t.after

    camp : Campaigns x.place.nodes x.place.node p.node c
    camp = campaigns_of x.place.nodes x.place.node p.node t.after.campaign c is.has p.knows.proposer.is_campaign

    safe : IsSafeCommandRun x.place.nodes p.node.has p.node.sent c (front_of t.after) (own_value x.place t.after) made
    safe = x.given.safe x.place.nodes p.node.has p.node.sent c (front_of t.after) own made camp.counts camp.marks is.made_so

    source : IsSource x.place.nodes p.node.has p.node.sent (own_value x.place t.after) made.ballot made.slot made.commands
    source = subst (λ (b : Ballot). IsSource x.place.nodes p.node.has p.node.sent own b made.slot made.commands) (sym safe.ballot)
        (subst (λ (k : ℕ). IsSource x.place.nodes p.node.has p.node.sent own c.ballot k made.commands) (sym safe.begins) safe.commands)

    none_stored : (k : ℕ) → made.slot ≤ k → k < made.slot + length made.commands → (w : Vote) → t.after.store.votes k ≡ Some w → w.ballot ≡ made.ballot → ⊥
    none_stored k low high w has same =
        source_once x.place.nodes p.node.has p.node.sent own made.ballot made.slot made.commands source k low high w.command
        (subst (λ (y : Ballot). In (Accept y k w.command) p.node.sent) (sym safe.ballot)
        (camp.votes k w (ap (λ (st : Store). st.votes k) p.knows.store ∙ has) (same ∙ safe.ballot)))

    unvoted : (k : ℕ) → made.slot ≤ k → k < made.slot + length made.commands → is_voted t.after.store made.ballot k ≡ false
    unvoted k low high = none_of_ballot (t.after.store.votes k) made.ballot (λ w has same. none_stored k low high w has same)

-- its commands are proposed one after another
pub proposes_run : (x : Scope) (came : List Arrival) (heard : Hearing) (t : Turn) (p : Path x came heard (applied t.after) t) (c : Campaign) (made : AcceptRun)
    → IsOwnRun x.place t.after p.node c made
    → Chain (dealer_in x) x.place.nodes x.place.node (p.sent ++ x.world.ever) p.node (sending_all (proposed made.ballot made.slot made.commands))
    (with_sent p.node (proposed made.ballot made.slot made.commands))
proposes_run x came heard t p c made o = by_source o.source
  where
    ever : List Message
    ever = p.sent ++ x.world.ever

    prepared : In (Prepare made.ballot c.first) p.node.sent
    prepared = subst (λ (b : Ballot). In (Prepare b c.first) p.node.sent) (sym o.ballot) (let k = o.camp in k.prepared)

    may : (d : Command) → own_value x.place t.after ≡ Some d → IsFree x.place.nodes p.node.has made.ballot (front_of t.after)
        → MayPropose (dealer_in x) x.place.nodes x.place.node p.node made.ballot (front_of t.after) d
    may d is free =
        let own = value_is x t.after p.node d is p.knows.pending in
        inr (
          free,
          own.0,
          (
            applied t.after,
            p.commands,
            refl,
            (λ other h. let clash : ◌≡◌ {A = Option Command} (Some other) None = sym (p.knows.learner.only (front_of t.after) other h) ∙ (x.given.hole t.after.learned.log p.knows.learner.log).1 in absurd (cc)),
            own.1,
          ),
        )

    by_source : IsSource x.place.nodes p.node.has p.node.sent (own_value x.place t.after) made.ballot made.slot made.commands
        → Chain (dealer_in x) x.place.nodes x.place.node (p.sent ++ x.world.ever) p.node (sending_all (proposed made.ballot made.slot made.commands))
        (with_sent p.node (proposed made.ballot made.slot made.commands))
    by_source (inl told) = x.given.command_run_proposes (dealer_in x) x.place.nodes x.place.node ever p.node made.ballot c.first made.slot made.commands p.knows.up prepared o.mine told
    by_source (inr (d, is, own, free, once)) =
        subst (λ (cs : List Command). Chain (dealer_in x) x.place.nodes x.place.node (p.sent ++ x.world.ever) p.node (sending_all (proposed made.ballot made.slot cs)) (with_sent p.node (proposed made.ballot made.slot cs))) (sym is)
        (more nothing p.node (sends (Accept made.ballot made.slot d)) _ _ (no_move nothing p.node refl refl)
        (proposes made.ballot c.first made.slot d p.knows.up prepared once o.mine
        (subst (λ (k : ℕ). MayPropose (dealer_in x) x.place.nodes x.place.node p.node made.ballot k d) (sym o.slot) (may d own (subst (IsFree x.place.nodes p.node.has made.ballot) o.slot free))) refl refl) refl)

-- what the node leads once its campaign proposed
marked_campaign : (g : Given) (place : Place) (s : Standing) (node : Node) (c : Campaign) (made : AcceptRun) → node.store ≡ s.store → IsMade place s c made → IsOwnRun place s node c made
    → Campaigns place.nodes place.node (record node {
      store = taking_command_run node.store made.ballot made.slot made.commands;
      begun = taking_command_run node.store made.ballot made.slot made.commands;
      sent = proposed made.ballot made.slot made.commands ++ node.sent;
    }) (with_marks c (Ok (Some made)))
marked_campaign g place s node c made store is o = record {
  own = camp.own;
  promised = promise_is g node.store made.ballot made.slot made.commands o.promised ∙ o.ballot;
  prepared = in_later new node.sent (Prepare c.ballot c.first) camp.prepared;
  counts = subst (λ (r : Result (Option AcceptRun) ProposeFault). CountsFrom node.has (with_marks c r)) is.made_so (g.proposal place.nodes node.has c (front_of s) (own_value place s) camp.counts);
  counts_all = subst (λ (r : Result (Option AcceptRun) ProposeFault). CountsAll place.nodes node.has (with_marks c r)) is.made_so
      (g.proposal_all place.nodes node.has c (front_of s) (own_value place s) camp.counts_all);
  marks = g.proposal_marks place.nodes node.sent c (front_of s) (own_value place s) made is.made_so camp.marks;
  votes = λ k v e same. votes_of k v e same (in_or_out made.slot (length made.commands) k);
  unrefused = camp.unrefused;
}
  where
    camp : Campaigns place.nodes place.node node c
    camp = o.camp

    new : List Message
    new = proposed made.ballot made.slot made.commands

    whole : command_run_at node.store made.ballot made.slot made.commands ≡ made.commands
    whole = ap (λ (st : Store). command_run_at st made.ballot made.slot made.commands) store ∙ o.whole

    votes_of : (k : ℕ) (v : Vote) → (taking_command_run node.store made.ballot made.slot made.commands).votes k ≡ Some v → v.ballot ≡ c.ballot
        → ((k < made.slot) ⊎ (made.slot + length made.commands ≤ k)) ⊎ ((made.slot ≤ k) × (k < made.slot + length made.commands))
        → In (Accept c.ballot k v.command) (proposed made.ballot made.slot made.commands ++ node.sent)
    votes_of k v e same (inl out) =
        in_later new node.sent (Accept c.ballot k v.command) (camp.votes k v (sym (votes_outside g node.store made.ballot made.slot made.commands whole k out) ∙ e) same)
    votes_of k v e same (inr (low, high)) =
        let at = at_slot made.ballot made.slot made.commands k low high in
        let is_new : v ≡ record { ballot = made.ballot; command = at.0 } =
        same_Some v (record { ballot = made.ballot; command = at.0 }) (sym e ∙ votes_at g node.store made.ballot made.slot made.commands whole k at.0 at.1) in
        in_first new node.sent (Accept c.ballot k v.command)
        (subst (λ (m : Message). In m new) (λ j. Accept (o.ballot j) k ((sym is_new j).command)) (in_proposed made.ballot made.slot made.commands (Accept made.ballot k at.0) at.1))

-- the proposal is sent and voted for
abbrev pub made_frames : Place → AcceptRun → List Frame
made_frames place made = to_others place (frame.Accept made.ballot made.slot made.commands) ++ to_others place (frame.Accepted made.ballot made.slot made.commands)

abbrev pub standing_voted : Standing → Campaign → AcceptRun → Standing
standing_voted s c made = with_stored (record s { campaign = Some (with_marks c (Ok (Some made))) }) (taking_command_run s.store made.ballot made.slot made.commands)

pub propose : (x : Scope) (came : List Arrival) (heard : Hearing) (t : Turn) (ends : x.ends ≡ true) (p : Path x came heard (applied t.after) t) (c : Campaign) (made : AcceptRun)
    → IsMade x.place t.after c made → IsOwnRun x.place t.after p.node c made
    → LeadsAll x came heard (applied t.after) (joined t (sending (made_frames x.place made) (standing_voted t.after c made))) (answers x.place.node made.ballot made.slot made.commands)
propose x came heard t ends p c made is o =
    get_own_all x came heard (applied t.after) _ (answers i made.ballot made.slot made.commands) path
    (λ m h. in_first votes (new ++ p.sent) m (in_answered i made.ballot made.slot made.commands m h)) (low_votes i made.ballot stored.promise made.slot made.commands now)
  where
    i : ℕ
    i = x.place.node

    n : ℕ
    n = x.place.nodes

    own : Option Command
    own = own_value x.place t.after

    -- the proposals, as moves send them and as they are got, and the votes
    new : List Message
    new = proposed made.ballot made.slot made.commands

    asked : List Message
    asked = proposals made.ballot made.slot made.commands

    votes : List Message
    votes = answered x.place.node made.ballot made.slot made.commands

    stored : Store
    stored = taking_command_run p.node.store made.ballot made.slot made.commands

    whole : command_run_at p.node.store made.ballot made.slot made.commands ≡ made.commands
    whole = ap (λ (st : Store). command_run_at st made.ballot made.slot made.commands) p.knows.store ∙ o.whole

    now : (taking_command_run p.node.store made.ballot made.slot made.commands).promise ≡ made.ballot
    now = promise_is x.given p.node.store made.ballot made.slot made.commands o.promised

    up : AtMost p.node.store.promise made.ballot
    up = subst (AtMost p.node.store.promise) o.promised (at_most_self p.node.store.promise)

    sent : Node
    sent = with_sent p.node (proposed made.ballot made.slot made.commands)

    got : Node
    got = with_got_each (with_sent p.node (proposed made.ballot made.slot made.commands)) (proposals made.ballot made.slot made.commands)

    made_node : Node
    made_node = record p.node {
      store = taking_command_run p.node.store made.ballot made.slot made.commands;
      begun = taking_command_run p.node.store made.ballot made.slot made.commands;
      sent = proposed made.ballot made.slot made.commands ++ p.node.sent;
    }

    last : Node
    last = with_got_each (with_sent made_node (answered x.place.node made.ballot made.slot made.commands)) (proposals made.ballot made.slot made.commands)

    after : Standing
    after = standing_voted t.after c made

    -- the moves
    sends_them : Chain (dealer_in x) x.place.nodes x.place.node x.world.ever (first_in x) (record { sent = proposed made.ballot made.slot made.commands ++ p.sent; shown = p.shown; came = came }) sent
    sends_them = x.given.join (dealer_in x) n i x.world.ever (first_in x) (record { sent = p.sent; shown = p.shown; came = came }) p.node (sending_all new) sent p.chain (proposes_run x came heard t p c made o)

    gets_them : Chain (dealer_in x) x.place.nodes x.place.node x.world.ever (first_in x) (record { sent = proposed made.ballot made.slot made.commands ++ p.sent; shown = p.shown; came = came }) got
    gets_them = own_chain (dealer_in x) n i x.world.ever (first_in x) (record { sent = new ++ p.sent; shown = p.shown; came = came }) sent asked p.knows.up
        (λ m h. in_first new p.sent m (in_proposed made.ballot made.slot made.commands m h)) sends_them

    votes_for_them : Chain (dealer_in x) x.place.nodes x.place.node ((proposed made.ballot made.slot made.commands ++ p.sent) ++ x.world.ever) got
        (sending_all (answered x.place.node made.ballot made.slot made.commands)) last
    votes_for_them =
        subst (λ (cs : List Command). Chain (dealer_in x) n i ((new ++ p.sent) ++ x.world.ever) got (sending_all (answered i made.ballot made.slot cs))
        (with_sent (with_store got (taking_command_run got.store made.ballot made.slot made.commands)) (answered i made.ballot made.slot cs))) whole
        (x.given.command_run_votes (dealer_in x) n i ((new ++ p.sent) ++ x.world.ever) got made.ballot made.slot made.commands p.knows.up p.begun up (λ m h. in_first asked p.node.has m h))

    -- what the node then is
    prepared_then : (b : Ballot) (f : ℕ) → In (Prepare b f) (proposed made.ballot made.slot made.commands ++ p.node.sent) → In (Prepare b f) p.node.sent
    prepared_then b f h = elim (in_split new p.node.sent (Prepare b f) h) [
      | inl one ↦ absurd (let e = (proposed_is made.ballot made.slot made.commands (Prepare b f) one).2 in cc)
      | inr old ↦ old
    ]

    began_before : (b : Ballot) (f : ℕ) → In (Prepare b f) (proposed made.ballot made.slot made.commands ++ p.node.sent)
        → AtMost b (taking_command_run p.node.store made.ballot made.slot made.commands).promise × (b.node ≡ x.place.node) × (f ≤ front_of t.after)
    began_before b f h = let old = p.knows.proposer.began b f (prepared_then b f h) in (subst (AtMost b) (o.promised ∙ sym now) old.0, old.1, old.2)

    proposed_now : (b : Ballot) (s : ℕ) (d : Command) → In (Accept b s d) (proposed made.ballot made.slot made.commands ++ p.node.sent)
        → AtMost b (taking_command_run p.node.store made.ballot made.slot made.commands).promise
    proposed_now b s d h = elim (in_split new p.node.sent (Accept b s d) h) [
      | inl one ↦ (let e = proposed_is made.ballot made.slot made.commands (Accept b s d) one in
          let same = (accept_is b made.ballot s e.0 d e.1 e.2).0 in
          subst (AtMost b) (same ∙ sym now) (at_most_self b))
      | inr old ↦ subst (AtMost b) (o.promised ∙ sym now) (p.knows.proposer.proposed b s d old)
    ]

    stands_on : (b : Ballot) (f : ℕ) → Stands made_node b f → front_of t.after < f + WINDOW → front_of t.after < SLOTS
        → (found : Campaign) × (◌≡◌ {A = Option Campaign} (Some (with_marks c (Ok (Some made)))) (Some found)) × (found.ballot ≡ b) × (found.first ≡ f)
    stands_on b f st near left =
        let old : Stands p.node b f = record {
          began = prepared_then b f st.began;
          promised = o.promised ∙ (sym now ∙ st.promised);
          unrefused = st.unrefused;
        } in
        let found = p.knows.proposer.stands b f old near left in
        let same : c ≡ found.0 = same_Some c found.0 (sym is.has ∙ found.1) in
        (with_marks c (Ok (Some made)), refl, ap (λ (y : Campaign). y.ballot) same ∙ found.2, ap (λ (y : Campaign). y.first) same ∙ found.3)

    knows_made : Knows (dealer_in x) x.place (applied t.after) (standing_voted t.after c made) made_node
    knows_made = record {
      up = p.knows.up;
      store = ap (λ (st : Store). taking_command_run st made.ballot made.slot made.commands) p.knows.store;
      within = x.given.command_run_within p.node.store made.ballot made.slot made.commands p.knows.within up;
      proposer = record {
        is_campaign = marked_campaign x.given x.place t.after p.node c made p.knows.store is o;
        began = λ b f h. began_before b f h;
        proposed = λ b s k h. proposed_now b s k h;
        stands = λ b f st near left. stands_on b f st near left;
      };
      learner = p.knows.learner;
      pending = pending_all (dealer_in x) i (with_store p.node stored) new (applied t.after) t.after.pending
          (stored_pending (dealer_in x) i p.node stored (applied t.after) t.after.pending p.knows.pending);
      places = p.knows.places;
      shown = p.knows.shown;
      seen = subst (λ (b : Ballot). Sees p.node.has b t.after.seen) (o.promised ∙ sym now) p.knows.seen;
      proposals = run_proposed x.given n i (applied t.after) own p.node.store p.node.has p.node.sent made.ballot made.slot made.commands o.promised o.slot o.mine o.source whole p.knows.proposals;
    }

    quiet : (m : Message) → In m (answered x.place.node made.ballot made.slot made.commands) → IsQuiet m
    quiet m h = let e = (answered_is i made.ballot made.slot made.commands m h).2 in subst IsQuiet (sym e) tt

    low : AreLow (taking_command_run p.node.store made.ballot made.slot made.commands).promise (proposals made.ballot made.slot made.commands)
    low m h =
        let e = (proposal_is made.ballot made.slot made.commands m h).2 in (
          subst IsNoAnswer (sym e) tt,
          λ b inside. elim (subst (λ (y : Message). In b (ballots_in y)) e inside) [
            | inl one ↦ subst (λ (y : Ballot). AtMost y stored.promise) (sym one) (subst (AtMost made.ballot) (sym now) (at_most_self made.ballot))
            | inr none ↦ absurd none
          ],
        )

    path : Path x came heard (applied t.after) (joined t (sending (made_frames x.place made) (standing_voted t.after c made)))
    path = record {
      sent = votes ++ (new ++ p.sent);
      shown = p.shown;
      got = asked ++ p.got;
      node = last;
      chain = x.given.join (dealer_in x) n i x.world.ever (first_in x) (record { sent = new ++ p.sent; shown = p.shown; came = came }) got (sending_all votes) last gets_them votes_for_them;
      knows = own_knows x.given (dealer_in x) x.place (applied t.after) after (with_sent made_node votes) asked low
          (sent_all_knows x.given (dealer_in x) x.place (applied t.after) after made_node votes quiet knows_made);
      commands = p.commands;
      hears = p.hears;
      talks = p.talks;
      runs = p.runs;
      begun = refl;
      unbegun = refl;
      starts = p.starts;
      has = ap (λ (l : List Message). asked ++ l) p.has ∙ sym (append_assoc asked p.got x.had);
      carry = subst (Carry n i (t.frames ++ made_frames x.place made)) (append_assoc votes new p.sent)
          (joined_carry n i t.frames (made_frames x.place made) p.sent (votes ++ new) p.carry
          (proposal_carry n i (frame.Accept made.ballot made.slot made.commands) (frame.Accepted made.ballot made.slot made.commands) made.ballot made.slot made.commands (three_in x) refl refl o.mine));
      all = subst (CarryAll n i (t.frames ++ made_frames x.place made)) (append_assoc votes new p.sent)
          (joined_all n i t.frames (made_frames x.place made) p.sent (votes ++ new) p.all
          (proposal_all n i (frame.Accept made.ballot made.slot made.commands) (frame.Accepted made.ballot made.slot made.commands) made.ballot made.slot made.commands (three_in x) refl refl));
      pieces = λ ends. subst (λ (l : List Piece). AreShown i x.start x.log l p.shown) (sym (append-nil t.shown)) (p.pieces ends);
      logged = λ ends. ap (log_after x.log) (append-nil t.shown) ∙ p.logged ends;
      unshown = p.unshown;
      unvoted = λ q. absurd (true≢false (sym ends ∙ q));
      unstored = λ q. absurd (true≢false (sym ends ∙ q));
      got_only = λ m h. elim (in_split asked p.got m h) [
        | inl one ↦ inr (in_later votes (new ++ p.sent) m (in_first new p.sent m (in_proposed made.ballot made.slot made.commands m one)))
        | inr old ↦ elim (p.got_only m old) [ inl a ↦ inl a | inr b ↦ inr (in_later votes (new ++ p.sent) m (in_later new p.sent m b)) ]
      ];
      got_all = λ m h. in_later asked p.got m (p.got_all m h);
    }

-- ---- the close

-- a campaign that proposes in vain has no slot there
run_fault : (quorum covered done : Bool) (c : Campaign) (value : Option AcceptRun) (fault : ProposeFault)
    → ◌≡◌ {A = Result (Option AcceptRun) ProposeFault} (if not quorum then Ok None else if not covered then Err OutOfWindow else if done then Ok None else Ok value) (Err fault) → covered ≡ false
run_fault false covered done c value fault h = absurd (cc)
run_fault true false done c value fault h = refl
run_fault true true false c value fault h = absurd (cc)
run_fault true true true c value fault h = absurd (cc)

closes_by : (x : Scope) (came : List Arrival) (heard : Hearing) (t : Turn) (ends : x.ends ≡ true) (p : Path x came heard (applied t.after) t) (r : Result (Option AcceptRun) ProposeFault)
    → proposal_at x.place t.after ≡ r
    → Goes x came heard (behind t (closing_by x.place r (record t.after { campaign = marked_run_from t.after.campaign r })))
closes_by x came heard t ends p (Ok None) e =
    subst (λ (c : Option Campaign). Path x came heard (applied t.after) (joined t (still (record t.after { campaign = c })))) (sym (unmarked t.after.campaign))
    (go_on x came heard (applied t.after) t p)
closes_by x came heard t ends p (Err fault) e = rest x came heard t p (λ b f st near left. outside b f st near left t.after.campaign refl e)
  where
    covered_by : (low high : Bool) (c : Campaign) → nat_lt (front_of t.after) c.first ≡ low → nat_lt (front_of t.after) (c.first + WINDOW) ≡ high
        → (if low then false else high) ≡ false → c.first ≤ front_of t.after → front_of t.after < c.first + WINDOW → ⊥
    covered_by true high c el eh h low near = let l = ltb-true (front_of t.after) c.first el in omega arith
    covered_by false high c el eh h low near = let l = ltb-false (front_of t.after) (c.first + WINDOW) (eh ∙ h) in omega arith

    outside : (b : Ballot) (f : ℕ) → Stands p.node b f → front_of t.after < f + WINDOW → front_of t.after < SLOTS → (c : Option Campaign) → t.after.campaign ≡ c
        → run_from_campaign x.place.nodes t.after.campaign (front_of t.after) (own_value x.place t.after) ≡ Err fault → ⊥
    outside b f st near left None ec h =
        let clash : ◌≡◌ {A = Result (Option AcceptRun) ProposeFault} (Ok None) (Err fault) =
        ap (λ (c : Option Campaign). run_from_campaign x.place.nodes c (front_of t.after) (own_value x.place t.after)) (sym ec) ∙ h in absurd (cc)
    outside b f st near left (Some c) ec h =
        let found = p.knows.proposer.stands b f st near left in
        let same : c ≡ found.0 = same_Some c found.0 (sym ec ∙ found.1) in
        let first : c.first ≡ f = ap (λ (y : Campaign). y.first) same ∙ found.3 in
        let by : run_by x.place.nodes c (front_of t.after) (own_value x.place t.after) ≡ Err fault =
        ap (λ (y : Option Campaign). run_from_campaign x.place.nodes y (front_of t.after) (own_value x.place t.after)) (sym ec) ∙ h in
        let uncovered : is_covered c.first (front_of t.after) ≡ false =
        run_fault (has_quorum x.place.nodes c) (is_covered c.first (front_of t.after)) (is_proposed c (front_of t.after)) c
        (accept_run_of c (front_of t.after) (commands_at x.place.nodes c (front_of t.after) (own_value x.place t.after))) fault by in
        covered_by _ _ c refl refl uncovered
        (subst (λ (k : ℕ). k ≤ front_of t.after) (sym first) (p.knows.proposer.began b f st.began).2)
        (subst (λ (k : ℕ). front_of t.after < k + WINDOW) (sym first) near)
closes_by x came heard t ends p (Ok (Some made)) e = by_campaign (made_by x.place t.after made t.after.campaign refl e)
  where
    by_campaign : (found : (f : Campaign) × IsMade x.place t.after f made)
        → Goes x came heard (behind t (proposing x.place made (record t.after { campaign = marked_run_from t.after.campaign (Ok (Some made)) })))
    by_campaign (c, is) =
        subst (λ (y : Option Campaign). Goes x came heard (behind t (proposing x.place made (record t.after { campaign = y })))) (sym marked)
        (subst (λ (cs : List Command). Goes x came heard (behind t (behind u (behind (v cs) (rest_of cs))))) (sym o.whole)
        (subst (Goes x came heard) (regroup t u (behind (v made.commands) (rest_of made.commands)))
        (subst (Goes x came heard) (regroup (joined t u) (v made.commands) (rest_of made.commands))
        (subst (λ (k : Turn). Goes x came heard (behind k (rest_of made.commands))) (sym (joined_assoc t u (v made.commands))) by_vote))))
      where
        marked : marked_run_from t.after.campaign (Ok (Some made)) ≡ Some (with_marks c (Ok (Some made)))
        marked = ap (λ (y : Option Campaign). marked_run_from y (Ok (Some made))) is.has

        o : IsOwnRun x.place t.after p.node c made
        o = own_run x came heard t p c made is

        s : Standing
        s = record t.after { campaign = Some (with_marks c (Ok (Some made))) }

        u : Turn
        u = sending (to_others x.place (frame.Accept made.ballot made.slot made.commands)) s

        v : List Command → Turn
        v cs = sending (to_others x.place (frame.Accepted made.ballot made.slot cs)) (standing_voted t.after c made)

        rest_of : List Command → Result Turn Refusal
        rest_of cs = counting_votes x.place x.place.node made.ballot made.slot cs (standing_voted t.after c made)

        by_vote : Goes x came heard (behind (joined t (joined u (v made.commands))) (rest_of made.commands))
        by_vote =
            let told = propose x came heard t ends p c made is o in
            count x came heard (joined t (joined u (v made.commands))) x.place.node made.ballot made.slot made.commands told.path told.had x.is_place.node

close_by : (x : Scope) (came : List Arrival) (heard : Hearing) (t : Turn) (ends : x.ends ≡ true) (p : Path x came heard (applied t.after) t) (b : Bool)
    → (leads x.place.nodes t.after.campaign && nat_le SLOTS (front_of t.after)) ≡ b
    → Goes x came heard (behind t (if b then Ok (still (idle t.after))
    else closing_by x.place (proposal_at x.place t.after) (record t.after { campaign = marked_run_from t.after.campaign (proposal_at x.place t.after) })))
close_by x came heard t ends p true e = rest x came heard t p (λ b f st near left.
    let l = leb-true SLOTS (front_of t.after) (and_parts (leads x.place.nodes t.after.campaign) (nat_le SLOTS (front_of t.after)) e).1 in omega arith)
close_by x came heard t ends p false e = closes_by x came heard t ends p (proposal_at x.place t.after) refl

-- at the end of a call a node that leads proposes from its front on
pub close : (x : Scope) (came : List Arrival) (heard : Hearing) (t : Turn) (ends : x.ends ≡ true) → Path x came heard (applied t.after) t → Goes x came heard (behind t (closing x.place t.after))
close x came heard t ends p = close_by x came heard t ends p _ refl
