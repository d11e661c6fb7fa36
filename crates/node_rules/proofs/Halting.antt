-- Calls that stop in their append: the chain as far as the append, with nothing shown.
use Rattle.std.proofs.Common.{◌≡◌, ◌≢◌, ℕ, ◌+◌, ◌<◌, ◌≤◌, ◌⊎◌, inl, inr, Bool, true, false, true≢false, not, if◌then◌else◌, ◌&&◌, List, [], ◌∷◌, ◌++◌, Option, Some, None, Result, Ok, Err, refl, sym, ap, subst, arith, length}
use Rattle.std.specs.Prelude.{nat_le}
use Rattle.paxos_wire.specs.declared.limits.TheConstants.{SLOTS}
use Rattle.paxos_wire.specs.declared.ballot.Ballot.{Ballot}
use Rattle.paxos_wire.specs.declared.fault.FrameFault.{FrameFault}
use Rattle.paxos_wire.specs.declared.message.Message.{Message as Wire}
use Rattle.paxos_wire.specs.declared.message.Message.TheVariants as frame
use Rattle.slot_log.specs.declared.command.Command.{Command}
use Rattle.slot_log.specs.declared.slot_fault.SlotFault.{SlotFault}
use Rattle.protocol_model.specs.Sets.{In}
use Rattle.protocol_model.specs.Ballots.{Below, AtMost}
use Rattle.protocol_model.specs.Messages.{Message, Prepare, Promise, Refuse, Accept, Accepted, Ask, Forward, sender_of}
use Rattle.protocol_model.specs.Frames.{carried, proposals}
use Rattle.protocol_model.specs.CommandRuns.{proposed, sending_all}
use Rattle.protocol_model.specs.Stores.{Store, promised, Append, unchanged, moved, own_promise, promise}
use Rattle.protocol_model.specs.Calls.{HasGotAtMost}
use Rattle.protocol_model.specs.Nodes.{Node}
use Rattle.protocol_model.specs.Arrivals.{Arrival}
use Rattle.protocol_model.specs.Moves.{Shown, Chain, with_sent}
use Rattle.proposer.specs.declared.accept_run.AcceptRun.{AcceptRun}
use Rattle.proposer.specs.declared.campaign.Campaign.{Campaign}
use Rattle.proposer.specs.declared.fault.ProposeFault.{ProposeFault}
use Rattle.paxos_wire.specs.Order.{is_below}
use Rattle.proposer.specs.declared.fault.ProposeFault.TheVariants.{OutOfWindow}
use Rattle.proposer.specs.Campaigns.{next_ballot, leads, is_covered, is_proposed}
use Rattle.proposer.specs.CommandRuns.{commands_at, accept_run_of, run_from_campaign, marked_run_from}
use Rattle.learner.specs.Learning.{Learned}
use Rattle.learner.specs.CommandRuns.{answer_to_run, hearing_run}
use Rattle.node_rules.specs.Standings.{Standing, applied, front_of, with_stored, idle}
use Rattle.node_rules.specs.Sending.{one, to_others}
use Rattle.node_rules.specs.Turns.{Turn, Refusal, Spent, still, sending, joined, behind, and_then}
use Rattle.node_rules.specs.Learning.{learning, counting_votes, telling}
use Rattle.protocol_model.specs.Votes.{told_by, command_run_at, taking_command_run}
use Rattle.node_rules.specs.Accepting.{promising, refusing, preparing, voting, accepting}
use Rattle.node_rules.specs.Proposing.{higher, greatest_seen, is_over, is_spent, beginning, ticking, own_value, closing_by, proposing, proposal_at, closing}
use Rattle.node_rules.specs.Rules.{ballots_of, highest, seeing, taking, asking, on_read}
use Rattle.node_rules.specs.Called.{said_in, IsSent}
use Rattle.protocol_model.proofs.Sets.{Within, in_first, in_later, in_split}
use Rattle.protocol_model.proofs.Ballots.{at_most_self, below_if, at_most_if_not}
use Rattle.node_rules.proofs.Ordering.{higher_is}
use Rattle.node_rules.proofs.Paths.{Hearing, Scope, dealer_in, first_in, Path, Goes, has_in, regroup, three_in}
use Rattle.node_rules.proofs.Promising.{refuse}
use Rattle.node_rules.proofs.Together.{with_got_each, own_chain, no_answer, proposals_own}
use Rattle.node_rules.proofs.OwnRuns.{in_proposed, in_proposals}
use Rattle.paxos_wire.specs.Fits.{HasCommands}
use Rattle.node_rules.proofs.Asked.{asked_same}
use Rattle.node_rules.proofs.Closing.{IsMade, made_by, IsOwnRun, own_run, proposes_run}
use Rattle.node_rules.proofs.Asking.{tell_known, behind_still}
use Rattle.node_rules.proofs.Framing.{hand_on, chosen_goes, accepted_goes}
use Rattle.node_rules.proofs.Ticking.{above}
use Rattle.node_rules.proofs.Beginning.{Runs, hearing_of, begin, begin_frame, begin_frames, of_proposals, begin_promise, begin_refusal}

-- the chain of a call that stops here, whose append may leave this store
pub record Halted (x : Scope) (came : List Arrival) (store : Store) : Type 0 where
  pub sent : List Message
  pub last : Node
  pub chain : Chain (dealer_in x) x.place.nodes x.place.node x.world.ever (first_in x) (record { sent = sent; shown = []; came = came }) last
  pub up : last.up ≡ true
  pub same_store : last.store ≡ (first_in x).store
  pub append : Append x.place.node last.has last.store store
  pub own : (message : Message) → In message sent → sender_of message ≡ x.place.node
  pub unvoted : (sender : ℕ) (ballot : Ballot) (slot : ℕ) (command : Command) → In (Accepted sender ballot slot command) sent → ⊥
  pub got : HasGotAtMost (first_in x).has x.messages sent last.has

-- what the node has on a path
got_at_most : (x : Scope) (came : List Arrival) (heard : Hearing) (upto : List Command) (t : Turn) → x.had ≡ (first_in x).has → (p : Path x came heard upto t)
    → HasGotAtMost (first_in x).has x.messages p.sent p.node.has
got_at_most x came heard upto t same p m h = elim (in_split p.got x.had m (subst (λ (l : List Message). In m l) p.has h)) [
  | inl new ↦ elim (p.got_only m new) [ inl a ↦ inr (inl a) | inr b ↦ inr (inr b) ]
  | inr old ↦ inl (subst (λ (l : List Message). In m l) same old)
]

-- a path may stop at any append of its node
pub halt : (x : Scope) (came : List Arrival) (heard : Hearing) (upto : List Command) (t : Turn) (store : Store) → x.ends ≡ false → x.had ≡ (first_in x).has
    → (p : Path x came heard upto t) → Append x.place.node p.node.has p.node.store store → Halted x came store
halt x came heard upto t store q same p append = record {
  sent = p.sent;
  last = p.node;
  chain = subst (λ (l : List Shown). Chain (dealer_in x) x.place.nodes x.place.node x.world.ever (first_in x) (record { sent = p.sent; shown = l; came = came }) p.node) (p.unshown q) p.chain;
  up = p.knows.up;
  same_store = p.unstored q;
  append = append;
  own = p.carry.own;
  unvoted = p.unvoted q;
  got = got_at_most x came heard upto t same p;
}

-- where nothing is appended
pub halt_same : (x : Scope) (came : List Arrival) (heard : Hearing) (upto : List Command) (t : Turn) → x.ends ≡ false → x.had ≡ (first_in x).has
    → (p : Path x came heard upto t) → Halted x came t.after.store
halt_same x came heard upto t q same p = halt x came heard upto t t.after.store q same p (unchanged _ (sym p.knows.store))

-- ---- what a result leaves

abbrev pub Leaves : (x : Scope) (came : List Arrival) → Result Turn Refusal → Type 0
Leaves x came (Ok turn) = Halted x came turn.after.store
Leaves x came (Err refusal) = Unit {0}

-- a stage goes on with nothing stored; or it stored something, and the node doesn't lead then
abbrev pub Rests : (x : Scope) (came : List Arrival) (heard : Hearing) → Result Turn Refusal → Type 0
Rests x came heard (Ok turn) = Path x came heard (applied turn.after) turn ⊎ (Halted x came turn.after.store × (leads x.place.nodes turn.after.campaign ≡ false))
Rests x came heard (Err refusal) = Unit {0}

pub rests_of : (x : Scope) (came : List Arrival) (heard : Hearing) (r : Result Turn Refusal) → Goes x came heard r → Rests x came heard r
rests_of x came heard (Ok turn) p = inl p
rests_of x came heard (Err e) p = tt

pub leaves_behind : (x : Scope) (came : List Arrival) (u : Turn) (r : Result Turn Refusal) → Leaves x came r → Leaves x came (behind u r)
leaves_behind x came u (Ok v) h = h
leaves_behind x came u (Err e) h = tt

-- ---- the close

-- a node that doesn't lead proposes nothing
pub unled_by : (n : ℕ) (c : Option Campaign) (front : ℕ) (own : Option Command) → leads n c ≡ false → run_from_campaign n c front own ≡ Ok None
unled_by n None front own e = refl
unled_by n (Some c) front own e = ap (λ (b : Bool). if not b then Ok None else if not (is_covered c.first front) then Err OutOfWindow
    else if is_proposed c front then Ok None
    else Ok (accept_run_of c front (commands_at n c front own))) e

close_unled_by : (x : Scope) (came : List Arrival) (s : Standing) (store : Store) (a b : Bool) (r : Result (Option AcceptRun) ProposeFault) → a ≡ false → r ≡ Ok None → s.store ≡ store → Halted x came store
    → Leaves x came (if a && b then Ok (still (idle s)) else closing_by x.place r (record s { campaign = marked_run_from s.campaign r }))
close_unled_by x came s store true b r e er es h = absurd (true≢false e)
close_unled_by x came s store false b (Err f) e er es h = absurd (cc)
close_unled_by x came s store false b (Ok (Some made)) e er es h = absurd (cc)
close_unled_by x came s store false b (Ok None) e er es h = subst (Halted x came) (sym es) h

close_unled : (x : Scope) (came : List Arrival) (s : Standing) → leads x.place.nodes s.campaign ≡ false → Halted x came s.store → Leaves x came (closing x.place s)
close_unled x came s e h =
    close_unled_by x came s s.store (leads x.place.nodes s.campaign) (nat_le SLOTS (front_of s)) (proposal_at x.place s) e (unled_by x.place.nodes s.campaign (front_of s) (own_value x.place s) e) refl h

-- what is left where votes are counted: the store stays
counted_leaves : (x : Scope) (came : List Arrival) (s : Standing) {A : Type 0} (answer : Result A SlotFault) (new : Learned) → Halted x came s.store → Leaves x came (learning x.place answer new s)
counted_leaves x came s (Ok a) new h = h
counted_leaves x came s (Err e) new h = tt

-- the node proposes, and stops as it votes for that
halt_proposed : (x : Scope) (came : List Arrival) (heard : Hearing) (t : Turn) (c : Campaign) (made : AcceptRun) → x.ends ≡ false → x.had ≡ (first_in x).has
    → (p : Path x came heard (applied t.after) t) → IsMade x.place t.after c made → Halted x came (taking_command_run t.after.store made.ballot made.slot made.commands)
halt_proposed x came heard t c made q same p is = record {
  sent = new ++ p.sent;
  last = with_got_each (with_sent p.node new) asked;
  chain = subst (λ (l : List Shown). Chain (dealer_in x) x.place.nodes x.place.node x.world.ever (first_in x) (record { sent = new ++ p.sent; shown = l; came = came }) (with_got_each (with_sent p.node new) asked)) (p.unshown q)
      (own_chain (dealer_in x) x.place.nodes x.place.node x.world.ever (first_in x) (record { sent = new ++ p.sent; shown = p.shown; came = came }) (with_sent p.node new) asked p.knows.up
      (λ m h. in_first new p.sent m (in_proposed made.ballot made.slot made.commands m h))
      (x.given.join (dealer_in x) x.place.nodes x.place.node x.world.ever (first_in x) (record { sent = p.sent; shown = p.shown; came = came }) p.node (sending_all new) (with_sent p.node new) p.chain
      (proposes_run x came heard t p c made o)));
  up = p.knows.up;
  same_store = p.unstored q;
  append = subst (λ (st : Store). Append x.place.node (asked ++ p.node.has) p.node.store (taking_command_run st made.ballot made.slot made.commands)) p.knows.store
      (x.given.command_run_append x.place.node (asked ++ p.node.has) p.node.store made.ballot made.slot made.commands
      (subst (AtMost p.node.store.promise) o.promised (at_most_self p.node.store.promise)) (λ m h. in_first asked p.node.has m h));
  own = λ m h. elim (in_split new p.sent m h) [ inl one ↦ proposals_own x.place.node made.ballot made.slot made.commands o.mine m one | inr old ↦ p.carry.own m old ];
  unvoted = λ k b l d h. elim (in_split new p.sent (Accepted k b l d) h) [
    | inl one ↦ no_answer made.ballot made.slot made.commands k b l d (in_proposals made.ballot made.slot made.commands (Accepted k b l d) one)
    | inr old ↦ p.unvoted q k b l d old
  ];
  got = λ m h. got_now m h;
}
  where
    o : IsOwnRun x.place t.after p.node c made
    o = own_run x came heard t p c made is

    new : List Message
    new = proposed made.ballot made.slot made.commands

    asked : List Message
    asked = proposals made.ballot made.slot made.commands

    got_now : (m : Message) → In m (proposals made.ballot made.slot made.commands ++ p.node.has)
        → In m (first_in x).has ⊎ (In m x.messages ⊎ In m (proposed made.ballot made.slot made.commands ++ p.sent))
    got_now m h = elim (in_split asked p.node.has m h) [
      | inl one ↦ inr (inr (in_first new p.sent m (in_proposed made.ballot made.slot made.commands m one)))
      | inr old ↦ elim (got_at_most x came heard (applied t.after) t same p m old) [
        | inl had ↦ inl had
        | inr other ↦ elim other [ inl a ↦ inr (inl a) | inr b ↦ inr (inr (in_later new p.sent m b)) ]
      ]
    ]

proposal_leaves : (x : Scope) (came : List Arrival) (heard : Hearing) (t : Turn) (made : AcceptRun) → x.ends ≡ false → x.had ≡ (first_in x).has
    → (p : Path x came heard (applied t.after) t) → (found : (f : Campaign) × IsMade x.place t.after f made) → (c : Option Campaign)
    → Leaves x came (proposing x.place made (record t.after { campaign = c }))
proposal_leaves x came heard t made q same p found c =
    leaves_behind x came (sending (to_others x.place (frame.Accept made.ballot made.slot made.commands)) s) (voting x.place made.ballot made.slot made.commands s)
    (leaves_behind x came (sending (to_others x.place (frame.Accepted made.ballot made.slot told)) after) (counting_votes x.place x.place.node made.ballot made.slot told after)
    (counted_leaves x came after (answer_to_run after.learned x.place.node made.ballot made.slot told) (hearing_run after.learned x.place.node made.ballot made.slot told)
    (halt_proposed x came heard t found.0 made q same p found.1)))
  where
    s : Standing
    s = record t.after { campaign = c }

    told : List Command
    told = command_run_at t.after.store made.ballot made.slot made.commands

    after : Standing
    after = with_stored s (taking_command_run t.after.store made.ballot made.slot made.commands)

closing_leaves : (x : Scope) (came : List Arrival) (heard : Hearing) (t : Turn) (b : Bool) (r : Result (Option AcceptRun) ProposeFault) → x.ends ≡ false → x.had ≡ (first_in x).has
    → (p : Path x came heard (applied t.after) t) → proposal_at x.place t.after ≡ r
    → Leaves x came (if b then Ok (still (idle t.after)) else closing_by x.place r (record t.after { campaign = marked_run_from t.after.campaign r }))
closing_leaves x came heard t true r q same p e = halt_same x came heard (applied t.after) t q same p
closing_leaves x came heard t false (Ok None) q same p e = halt_same x came heard (applied t.after) t q same p
closing_leaves x came heard t false (Err f) q same p e = halt_same x came heard (applied t.after) t q same p
closing_leaves x came heard t false (Ok (Some made)) q same p e =
    proposal_leaves x came heard t made q same p (made_by x.place t.after made t.after.campaign refl e) (marked_run_from t.after.campaign (Ok (Some made)))

close_leaves : (x : Scope) (came : List Arrival) (heard : Hearing) (t : Turn) → x.ends ≡ false → x.had ≡ (first_in x).has → Path x came heard (applied t.after) t
    → Leaves x came (closing x.place t.after)
close_leaves x came heard t q same p =
    closing_leaves x came heard t (leads x.place.nodes t.after.campaign && nat_le SLOTS (front_of t.after)) (proposal_at x.place t.after) q same p refl

-- a stage, and then the close
pub then_closes : (x : Scope) (came : List Arrival) (heard : Hearing) (r : Result Turn Refusal) → x.ends ≡ false → x.had ≡ (first_in x).has → Rests x came heard r
    → Leaves x came (and_then r (closing x.place))
then_closes x came heard (Ok u) q same (inl p) = leaves_behind x came u (closing x.place u.after) (close_leaves x came heard u q same p)
then_closes x came heard (Ok u) q same (inr (h, unled)) = leaves_behind x came u (closing x.place u.after) (close_unled x came u.after unled h)
then_closes x came heard (Err e) q same rests = tt

-- ---- each message

prepare_rests_by : (x : Scope) (came : List Arrival) (heard : Hearing) (t : Turn) (from : ℕ) (ballot : Ballot) (slot : ℕ) (b : Bool) → x.ends ≡ false → x.had ≡ (first_in x).has
    → is_below t.after.store.promise ballot ≡ b → (p : Path x came heard (applied t.after) t) → In (Prepare ballot slot) p.node.has → from < x.place.nodes → from ≢ x.place.node
    → Rests x came heard (behind t (Ok (if b then promising from ballot slot t.after else refusing from ballot slot t.after)))
prepare_rests_by x came heard t from ballot slot false q same e p had below other = inl (refuse x came heard (applied t.after) t from ballot slot p below other)
prepare_rests_by x came heard t from ballot slot true q same e p had below other =
    inr (
      halt x came heard (applied t.after) t (promised t.after.store ballot) q same p
          (subst (λ (st : Store). Append x.place.node p.node.has p.node.store (promised st ballot)) p.knows.store
          (moved _ _ (unchanged _ refl) (promise ballot slot had (subst (λ (st : Store). Below st.promise ballot) (sym p.knows.store) (below_if t.after.store.promise ballot e)) refl))),
      refl,
    )

learned_rests : (x : Scope) (came : List Arrival) (heard : Hearing) (u : Turn) (s : Standing) {A : Type 0} (answer : Result A SlotFault) (new : Learned) → s.campaign ≡ None → Halted x came s.store
    → Rests x came heard (behind u (learning x.place answer new s))
learned_rests x came heard u s (Ok a) new none h = inr (h, ap (leads x.place.nodes) none)
learned_rests x came heard u s (Err e) new none h = tt

accept_rests_by : (x : Scope) (came : List Arrival) (heard : Hearing) (t : Turn) (from : ℕ) (ballot : Ballot) (slot : ℕ) (commands : List Command) (b : Bool) → x.ends ≡ false → x.had ≡ (first_in x).has
    → is_below ballot t.after.store.promise ≡ b → (p : Path x came heard (applied t.after) t) → Within (proposals ballot slot commands) p.node.has → from < x.place.nodes → from ≢ x.place.node
    → Rests x came heard (behind t (if b then Ok (refusing from ballot slot t.after) else voting x.place ballot slot commands (idle t.after)))
accept_rests_by x came heard t from ballot slot commands true q same e p had below other = inl (refuse x came heard (applied t.after) t from ballot slot p below other)
accept_rests_by x came heard t from ballot slot commands false q same e p had below other =
    let told : List Command = command_run_at t.after.store ballot slot commands in
    let after : Standing = with_stored (idle t.after) (taking_command_run t.after.store ballot slot commands) in
    let u : Turn = sending (to_others x.place (frame.Accepted ballot slot told)) after in
    subst (Rests x came heard) (regroup t u (counting_votes x.place x.place.node ballot slot told after))
    (learned_rests x came heard (joined t u) after (answer_to_run after.learned x.place.node ballot slot told) (hearing_run after.learned x.place.node ballot slot told) refl
    (halt x came heard (applied t.after) t (taking_command_run t.after.store ballot slot commands) q same p
    (subst (λ (st : Store). Append x.place.node p.node.has p.node.store (taking_command_run st ballot slot commands)) p.knows.store
    (x.given.command_run_append x.place.node p.node.has p.node.store ballot slot commands
    (subst (λ (st : Store). AtMost st.promise ballot) (sym p.knows.store) (at_most_if_not ballot t.after.store.promise e)) had))))

rested : (x : Scope) (came : List Arrival) (heard : Hearing) (s : Standing) (r : Result Turn Refusal) → Rests x came heard (behind (still s) r) → Rests x came heard r
rested x came heard s r rests = subst (Rests x came heard) (behind_still s r) rests

-- an Accept of another node
accept_rests : (x : Scope) (s : Standing) (from : ℕ) (ballot : Ballot) (slot : ℕ) (commands : List Command) → x.ends ≡ false → x.had ≡ (first_in x).has → Runs x s → 1 ≤ length commands
    → x.messages ≡ proposals ballot slot commands → IsSent x.place x.world.ever from (proposals ballot slot commands)
    → Rests x [] (hearing_of s (first_in x)) (accepting x.place from ballot slot commands (record s { seen = highest s.seen (ballot ∷ []) }))
accept_rests x s from ballot slot [] q same r some are sent = absurd (omega (arith, some))
accept_rests x s from ballot slot (command ∷ later) q same r some are sent =
    let h : Hearing = hearing_of s (first_in x) in
    let s0 : Standing = record s { seen = highest s.seen (ballot ∷ []) } in
    let p = begin_frames x s ballot (Accept ballot slot command) (proposals ballot (slot + 1) later) r are (λ m inside. sent.sent m inside) (of_proposals ballot slot (command ∷ later)) in
    rested x [] h s0 (accepting x.place from ballot slot (command ∷ later) s0)
    (accept_rests_by x [] h (still s0) from ballot slot (command ∷ later) (is_below ballot s0.store.promise) q same refl p
    (λ m inside. has_in x [] h (applied s) (still s0) p m (subst (λ (l : List Message). In m l) (sym are) inside)) sent.node sent.other)

taken_rests : (x : Scope) (s : Standing) (from : ℕ) (w : Wire) → HasCommands w → x.ends ≡ false → x.had ≡ (first_in x).has → Runs x s
    → x.messages ≡ carried from w → IsSent x.place x.world.ever from (carried from w)
    → Rests x [] (hearing_of s (first_in x)) (taking x.place from w (seeing w s))
taken_rests x s from (frame.Prepare ballot slot) some q same r one sent =
    let h : Hearing = hearing_of s (first_in x) in
    let m : Message = Prepare ballot slot in
    let s0 : Standing = seeing (frame.Prepare ballot slot) s in
    let p = begin_frame x s m (ballot ∷ []) r one (sent.sent m (inl refl)) tt refl in
    rested x [] h s0 (Ok (preparing from ballot slot s0))
    (prepare_rests_by x [] h (still s0) from ballot slot (is_below s0.store.promise ballot) q same refl p
    (has_in x [] h (applied s) (still s0) p m (subst (λ (l : List Message). In m l) (sym one) (inl refl))) sent.node sent.other)
taken_rests x s from (frame.Promise ballot slot told) some q same r one sent =
    inl (begin_promise x s from ballot slot told (ballots_of (frame.Promise ballot slot told)) r one (sent.sent (Promise from ballot slot told) (inl refl)) refl)
taken_rests x s from (frame.Refuse ballot slot promised) some q same r one sent =
    inl (begin_refusal x s from ballot slot promised (ballots_of (frame.Refuse ballot slot promised)) r one (sent.sent (Refuse from ballot slot promised) (inl refl)) refl)
taken_rests x s from (frame.Accept ballot slot commands) some q same r one sent = accept_rests x s from ballot slot commands q same r some.0 one sent
taken_rests x s from (frame.Accepted ballot slot commands) some q same r one sent =
    rests_of x [] (hearing_of s (first_in x)) (taking x.place from (frame.Accepted ballot slot commands) (seeing (frame.Accepted ballot slot commands) s))
    (accepted_goes x s from ballot slot commands r some.0 one sent)
taken_rests x s from (frame.Chosen slot command) some q same r one sent = rests_of x [] (hearing_of s (first_in x)) (taking x.place from (frame.Chosen slot command) (seeing (frame.Chosen slot command) s)) (chosen_goes x s from slot command r one sent)
taken_rests x s from (frame.Ask slot) some q same r one sent =
    let h : Hearing = hearing_of s (first_in x) in
    let m : Message = Ask from slot in
    let s0 : Standing = seeing (frame.Ask slot) s in
    let p = begin_frame x s m [] r one (sent.sent m (inl refl)) tt refl in
    rested x [] h s0 (Ok (telling from slot s0)) (inl (tell_known x [] h (still s0) from slot p sent.node sent.other))
taken_rests x s from (frame.Forward act) some q same r one sent =
    let h : Hearing = hearing_of s (first_in x) in
    let m : Message = Forward from act in
    let s0 : Standing = seeing (frame.Forward act) s in
    let p = begin_frame x s m [] r one (sent.sent m (inl refl)) tt refl in
    inl (hand_on x [] h (still s0) p from act (has_in x [] h (applied s) (still s0) p m (subst (λ (l : List Message). In m l) (sym one) (inl refl))))

then_asks : (x : Scope) (came : List Arrival) (from : ℕ) (w : Wire) (r : Result Turn Refusal) → Leaves x came r → Leaves x came (and_then r (λ closed. Ok (asking from w closed)))
then_asks x came from w (Ok u) h = subst (λ (s : Standing). Halted x came s.store) (sym (asked_same from w u.after)) h
then_asks x came from w (Err e) h = tt

-- a frame that stops in its append
pub frame_leaves : (x : Scope) (s : Standing) (from : ℕ) (read : Result Wire FrameFault) → ((w : Wire) → read ≡ Ok w → HasCommands w) → x.ends ≡ false → x.had ≡ (first_in x).has → Runs x s
    → x.messages ≡ said_in from read → IsSent x.place x.world.ever from (said_in from read)
    → Leaves x [] (on_read x.place from read s)
frame_leaves x s from (Err fault) has q same r one sent = tt
frame_leaves x s from (Ok w) has q same r one sent =
    then_asks x [] from w (and_then (taking x.place from w (seeing w s)) (closing x.place))
    (then_closes x [] (hearing_of s (first_in x)) (taking x.place from w (seeing w s)) q same (taken_rests x s from w (has w refl) q same r one sent))

-- ---- a tick

tick_rests_by : (x : Scope) (s : Standing) (over spent : Bool) → x.ends ≡ false → x.had ≡ (first_in x).has → Runs x s → x.messages ≡ []
    → Rests x [] (hearing_of s (first_in x)) (if over then Ok (still s) else if spent then Err Spent else Ok (beginning x.place (next_ballot x.place.node (greatest_seen s)) s))
tick_rests_by x s true spent q same r quiet = inl (begin x s r quiet)
tick_rests_by x s false true q same r quiet = tt
tick_rests_by x s false false q same r quiet =
    let p = begin x s r quiet in
    let ballot : Ballot = next_ballot x.place.node (greatest_seen s) in
    inr (
      halt x [] (hearing_of s (first_in x)) (applied s) (still s) (promised s.store ballot) q same p
          (subst (λ (st : Store). Append x.place.node p.node.has p.node.store (promised st ballot)) p.knows.store
          (moved _ _ (unchanged _ refl) (own_promise ballot refl
          (subst (λ (st : Store). Below st.promise ballot) (sym p.knows.store) (above s.store.promise (higher s.seen s.store.promise) x.place.node (higher_is s.seen s.store.promise).1)) refl))),
      x.given.alone x.place.nodes x.place.node ballot ballot (front_of s) (front_of s) (told_by s.store (front_of s)) (three_in x),
    )

-- a tick that stops in its append
pub tick_leaves : (x : Scope) (s : Standing) → x.ends ≡ false → x.had ≡ (first_in x).has → Runs x s → x.messages ≡ [] → Leaves x [] (and_then (ticking x.place s) (closing x.place))
tick_leaves x s q same r quiet =
    then_closes x [] (hearing_of s (first_in x)) (ticking x.place s) q same (tick_rests_by x s (is_over x.place s) (is_spent s) q same r quiet)
