-- What came of a quorum's votes, from call to call.
use Rattle.std.proofs.Common.{◌≡◌, ℕ, ◌<◌, ◌≤◌, ◌+◌, inl, inr, Bool, true, false, true≢false, not, if◌then◌else◌, List, [], ◌∷◌, Option, Some, None, Result, Ok, Err, refl, sym, ap, subst, ◌∙◌, eq-eqb, arith, length}
use Rattle.std.specs.Prelude.{is_none, IsOk, IsSome}
use Rattle.std.proofs.lemmas.Bool.{lt-ltb, le-ltb, not-false}
use Rattle.paxos_wire.specs.declared.limits.TheConstants.{WINDOW, SLOTS}
use Rattle.paxos_wire.specs.declared.ballot.Ballot.{Ballot}
use Rattle.paxos_wire.specs.declared.fault.FrameFault.{FrameFault}
use Rattle.paxos_wire.specs.declared.message.Message.{Message as Wire}
use Rattle.paxos_wire.specs.declared.message.Message.TheVariants as frame
use Rattle.paxos_wire.specs.Faults.{reading}
use Rattle.slot_log.specs.Slots.{Log, IsLog, known_at, with_command}
use Rattle.slot_log.specs.declared.slot_fault.SlotFault.{SlotFault}
use Rattle.slot_log.specs.declared.slot_fault.SlotFault.TheVariants.{Conflict as KnownOther}
use Rattle.learner.specs.Same.{is_same}
use Rattle.slot_log.specs.declared.command.Command.{Command}
use Rattle.protocol_model.specs.Sets.{In}
use Rattle.protocol_model.specs.Ballots.{Below}
use Rattle.protocol_model.specs.Messages.{Message, Accepted}
use Rattle.protocol_model.specs.Frames.{carried, proposals, answers}
use Rattle.protocol_model.specs.Nodes.{Node}
use Rattle.protocol_model.specs.Worlds.{World}
use Rattle.protocol_model.specs.Arrivals.{Arrival}
use Rattle.paxos_wire.specs.Order.{is_below}
use Rattle.proposer.specs.Campaigns.{next_ballot}
use Rattle.learner.specs.Learning.{Learned, is_open, is_other, knowing, answer_to_chosen, believing as with_chosen}
use Rattle.learner.specs.CommandRuns.{hearing_run, answer_to_run}
use Rattle.learner.specs.Counted.{IsOpen}
use Rattle.seat_session.specs.Session.{Standing as Talk}
use Rattle.seat_session.specs.declared.said.Said.{Said as Saying}
use Rattle.seat_session.specs.declared.session_fault.SessionFault.{SessionFault}
use Rattle.node_rules.specs.Standings.{Place, Standing, front_of, with_stored, idle, applied}
use Rattle.node_rules.specs.Sending.{one, to_others}
use Rattle.node_rules.specs.Turns.{Turn, Refusal, Spent, still, sending, joined, behind, and_then}
use Rattle.protocol_model.specs.Votes.{command_run_at, taking_command_run}
use Rattle.node_rules.specs.Accepting.{promising, refusing, voting}
use Rattle.node_rules.specs.Learning.{learning, counting_votes, asking_on, believing}
use Rattle.node_rules.specs.Proposing.{greatest_seen, is_over, is_spent, beginning, ticking, closing}
use Rattle.node_rules.specs.Seats.{session_at, with_session, left, connecting, dropping, answering, answering_all, HearsPiece}
use Rattle.node_rules.specs.Calls.{Call, Start, Tick, Away, Line, Connect, Drop, Stop}
use Rattle.node_rules.specs.Calls as call
use Rattle.node_rules.specs.Rules.{seeing, taking, asking, on_message, on_read, stopping, IsTurnUp, IsTurnBy}
use Rattle.node_rules.specs.Called.{said_in, came_in, Comes, IsSent}
use Rattle.node_rules.specs.Given.{Given}
use Rattle.node_rules.specs.Sound.{Stands}
use Rattle.node_rules.specs.Outcomes.{IsTaken, IsAnswered, FrontIsUnknown, IsAhead, ToldIsKnown, in_time, Brings, came as brought, own_vote, HasVote, VotesStayInTime, QuorumIsKnown}
use Rattle.protocol_model.proofs.Ballots.{below_if, not_below}
use Rattle.node_rules.proofs.Paths.{Hearing, Scope, first_in, Path, Goes}
use Rattle.node_rules.proofs.Beginning.{Runs, hearing_of, begin}
use Rattle.node_rules.proofs.Framing.{stood, taken}
use Rattle.node_rules.proofs.Ticking.{tick}
use Rattle.node_rules.proofs.Sitting.{same_learned}
use Rattle.node_rules.proofs.Hearing.{piece_sits}
use Rattle.node_rules.proofs.Noting.{played_for}
use Rattle.node_rules.proofs.Led.{scope, order_turn}
use Rattle.node_rules.proofs.Asked.{asked_on, asked_same}
use Rattle.node_rules.proofs.Settled.{Closes, gives_up, rests, makes, closes, behind_ok}
use Rattle.node_rules.proofs.Results.{ok_is}
use Rattle.node_rules.proofs.Chaining.{scope_of, runs_in}
use Rattle.node_rules.proofs.Counting.{Counts, Grows, same_grows, GrowsByEach, votes_grow, belief_grows, then_grows, learning_is, had_in_time, known_by_quorum}
use Rattle.paxos_wire.specs.Fits.{HasCommands}

-- ---- the front

is_some_known : (o : Option Command) → IsSome o → (c : Command) × (o ≡ Some c)
is_some_known None h = absurd (cc)
is_some_known (Some c) h = (c, refl)

pub front_is_unknown : Given → FrontIsUnknown
front_is_unknown g own place world s called turn answered taken =
    let l = (taken.called.of.runs answered.runs).knows.learner in
    let law = g.hole turn.after.learned.log l.log in (
      λ slot below. let k = is_some_known (known_at turn.after.learned.log slot) (law.0 slot below) in (k.0, l.knows slot k.0 k.1),
      λ command h. let clash : ◌≡◌ {A = Option Command} None (Some command) = sym law.1 ∙ l.only (front_of turn.after) command h in absurd (cc),
    )

-- ---- what a call leaves of what is counted

-- what is counted after a stage of a call, with what the call brings
pub record Stage (place : Place) (s : Standing) (called : Call) (old : List Message) (new : Learned) : Type 0 where
  pub grows : Grows old new
  pub brought_in : (voter : ℕ) (ballot : Ballot) (slot : ℕ) (command : Command) → Brings place s called voter ballot slot command → IsOpen s.learned.log slot
      → In (Accepted voter ballot slot command) grows.more

-- nothing comes with the call
none_proposed : (ballot : Ballot) (slot : ℕ) (commands : List Command) → proposals ballot slot commands ≡ [] → commands ≡ []
none_proposed ballot slot [] e = refl
none_proposed ballot slot (command ∷ more) e = absurd (cc)

quiet : (place : Place) (s : Standing) (called : Call) (voter : ℕ) (ballot : Ballot) (slot : ℕ) (command : Command) → came_in called ≡ [] → Brings place s called voter ballot slot command → ⊥
quiet place s called voter ballot slot command none (brought h) = subst (λ (l : List Message). In (Accepted voter ballot slot command) l) none h
quiet place s called voter ballot slot command none (own_vote from first bytes commands is read up mine told) =
    subst (λ (cs : List Command). In (Accepted place.node ballot slot command) (answers place.node ballot first (command_run_at s.store ballot first cs)))
    (none_proposed ballot first commands (sym (ap came_in is ∙ ap (said_in from) read) ∙ none)) told

quiet_stage : (place : Place) (s : Standing) (called : Call) (old : List Message) (new : Learned) → came_in called ≡ [] → Grows old new → Stage place s called old new
quiet_stage place s called old new none grows = record {
  grows = grows;
  brought_in = λ v b l c h ahead. absurd (quiet place s called v b l c none h);
}

further : (place : Place) (s : Standing) (called : Call) (old : List Message) (mid new : Learned) → (stage : Stage place s called old mid) → Grows stage.grows.more new
    → Stage place s called old new
further place s called old mid new stage later = record {
  grows = then_grows old mid new stage.grows later;
  brought_in = λ v b l c h ahead. later.kept (Accepted v b l c) (stage.brought_in v b l c h ahead);
}

-- ---- the close

closing_grows : (x : Scope) (came : List Arrival) (heard : Hearing) (t : Turn) (p : Path x came heard (applied t.after) t) (c : Turn) (old : List Message) → Closes x.place t.after p.node c → Counts old t.after.learned
    → Grows old c.after.learned
closing_grows x came heard t p c old (gives_up e) counts = same_grows old t.after.learned c.after.learned (ap (λ (y : Turn). y.after.learned) e) counts
closing_grows x came heard t p c old (rests e) counts = same_grows old t.after.learned c.after.learned (ap (λ (y : Turn). y.after.learned) e) counts
closing_grows x came heard t p c old (makes k made is o fresh e) counts =
    subst (Grows old) (ap (λ (y : Turn). y.after.learned) (sym e))
    (votes_grow x.given old t.after.learned x.place.node made.ballot made.slot made.commands p.knows.learner.log
    (subst (λ (n : ℕ). x.place.node < n) (sym p.knows.learner.nodes) x.is_place.node) o.most fresh.over.ok counts).grows

stage_closed : (x : Scope) (came : List Arrival) (heard : Hearing) (s : Standing) (called : Call) (old : List Message) (r : Result Turn Refusal) (turn : Turn) → Goes x came heard r
    → ((u : Turn) → r ≡ Ok u → Stage x.place s called old u.after.learned)
    → and_then r (closing x.place) ≡ Ok turn → Stage x.place s called old turn.after.learned
stage_closed x came heard s called old (Err e) turn goes stage h = absurd (cc)
stage_closed x came heard s called old (Ok u) turn goes stage h =
    let b = behind_ok u (closing x.place u.after) turn h in
    let st = stage u refl in
    subst (λ (l : Learned). Stage x.place s called old l) (ap (λ (y : Standing). y.learned) (sym b.2))
    (further x.place s called old u.after.learned b.0.after.learned st (closing_grows x came heard u goes b.0 st.grows.more (closes x came heard u goes b.0 b.1) st.grows.counts))

-- ---- what another node tells as chosen

-- what was learned, and that nothing else was known there
believed : (place : Place) (from slot : ℕ) (command : Command) (s : Standing) (u : Turn) → believing place from slot command s ≡ Ok u
    → IsOk (answer_to_chosen s.learned.log slot command) × (u.after.learned ≡ with_chosen s.learned slot command)
believed place from slot command s u e = by_first (learning place (answer_to_chosen s.learned.log slot command) (with_chosen s.learned slot command) s) refl e
  where
    by_first : (r : Result Turn Refusal) → learning place (answer_to_chosen s.learned.log slot command) (with_chosen s.learned slot command) s ≡ r
        → and_then r (λ told. Ok (asking_on from (front_of s) told)) ≡ Ok u
        → IsOk (answer_to_chosen s.learned.log slot command) × (u.after.learned ≡ with_chosen s.learned slot command)
    by_first (Err f) er h = absurd (cc)
    by_first (Ok v) er h =
        let is = learning_is place (answer_to_chosen s.learned.log slot command) (with_chosen s.learned slot command) s v er in (
          is.0,
          ap (λ (t : Turn). t.after.learned) (sym (ok_is (joined v (asking_on from (front_of s) v.after)) u h))
              ∙ (ap (λ (y : Standing). y.learned) (asked_on from (front_of s) v.after) ∙ is.1),
        )

-- ---- votes for another node's proposals

-- what they leave
pub record Voted (place : Place) (s : Standing) (ballot : Ballot) (slot : ℕ) (commands : List Command) (u : Turn) : Type 0 where
  pub ok : IsOk (answer_to_run s.learned place.node ballot slot (command_run_at s.store ballot slot commands))
  pub learned : u.after.learned ≡ hearing_run s.learned place.node ballot slot (command_run_at s.store ballot slot commands)

pub voted_so : (place : Place) (ballot : Ballot) (slot : ℕ) (commands : List Command) (s : Standing) (u : Turn) → voting place ballot slot commands (idle s) ≡ Ok u → Voted place s ballot slot commands u
voted_so place ballot slot commands s u e =
    let told : List Command = command_run_at s.store ballot slot commands in
    let t : Standing = with_stored (idle s) (taking_command_run s.store ballot slot commands) in
    let b = behind_ok (sending (to_others place (frame.Accepted ballot slot told)) t) (counting_votes place place.node ballot slot told t) u e in
    let is = learning_is place (answer_to_run s.learned place.node ballot slot told) (hearing_run s.learned place.node ballot slot told) t b.0 b.1 in
    record { ok = is.0; learned = ap (λ (y : Standing). y.learned) b.2 ∙ is.1 }

-- ---- each message

-- neither an Accept nor an Accepted
abbrev IsPlain : Wire → Type 0
IsPlain (frame.Prepare ballot slot) = Unit {0}
IsPlain (frame.Promise ballot slot told) = Unit {0}
IsPlain (frame.Refuse ballot slot promised) = Unit {0}
IsPlain (frame.Accept ballot slot commands) = ⊥
IsPlain (frame.Accepted ballot slot commands) = ⊥
IsPlain (frame.Chosen slot command) = Unit {0}
IsPlain (frame.Ask slot) = Unit {0}
IsPlain (frame.Forward command) = Unit {0}

no_vote : (from : ℕ) (w : Wire) → IsPlain w → (v : ℕ) (b : Ballot) (l : ℕ) (c : Command) → In (Accepted v b l c) (carried from w) → ⊥
no_vote from (frame.Prepare ballot slot) plain v b l c h = elim h [ inl e ↦ (let bad : ⊥ = cc in bad) | inr none ↦ none ]
no_vote from (frame.Promise ballot slot told) plain v b l c h = elim h [ inl e ↦ (let bad : ⊥ = cc in bad) | inr none ↦ none ]
no_vote from (frame.Refuse ballot slot promised) plain v b l c h = elim h [ inl e ↦ (let bad : ⊥ = cc in bad) | inr none ↦ none ]
no_vote from (frame.Accept ballot slot commands) plain v b l c h = plain
no_vote from (frame.Accepted ballot slot commands) plain v b l c h = plain
no_vote from (frame.Chosen slot command) plain v b l c h = elim h [ inl e ↦ (let bad : ⊥ = cc in bad) | inr none ↦ none ]
no_vote from (frame.Ask slot) plain v b l c h = elim h [ inl e ↦ (let bad : ⊥ = cc in bad) | inr none ↦ none ]
no_vote from (frame.Forward act) plain v b l c h = elim h [ inl e ↦ (let bad : ⊥ = cc in bad) | inr none ↦ none ]

no_vote_proposed : (ballot : Ballot) (slot : ℕ) (commands : List Command) (v : ℕ) (b : Ballot) (l : ℕ) (c : Command) → In (Accepted v b l c) (proposals ballot slot commands) → ⊥
no_vote_proposed ballot slot [] v b l c h = h
no_vote_proposed ballot slot (command ∷ more) v b l c (inl e) = cc
no_vote_proposed ballot slot (command ∷ more) v b l c (inr h) = no_vote_proposed ballot (slot + 1) more v b l c h

-- the bytes say one message
bytes_are : (f k : ℕ) (a b : List ℕ) → call.Frame f a ≡ call.Frame k b → a ≡ b
bytes_are f k a b e = cc

wires_are : (a b : Wire) → ◌≡◌ {A = Result Wire FrameFault} (Ok a) (Ok b) → a ≡ b
wires_are a b e = cc

says_so : (from other : ℕ) (bytes others : List ℕ) (w u : Wire) → reading bytes ≡ Ok w → call.Frame from bytes ≡ call.Frame other others → reading others ≡ Ok u → w ≡ u
says_so from other bytes others w u read same otherwise = wires_are w u (sym read ∙ (ap reading (bytes_are from other bytes others same) ∙ otherwise))

plain_stage : (place : Place) (s : Standing) (from : ℕ) (bytes : List ℕ) (w : Wire) (old : List Message) (new : Learned) → reading bytes ≡ Ok w → IsPlain w → Grows old new
    → Stage place s (call.Frame from bytes) old new
plain_stage place s from bytes w old new read plain grows = record {
  grows = grows;
  brought_in = λ v b l c h ahead. absurd (brings v b l c h);
}
  where
    brings : (v : ℕ) (b : Ballot) (l : ℕ) (c : Command) → Brings place s (call.Frame from bytes) v b l c → ⊥
    brings v b l c (brought h) = no_vote from w plain v b l c (subst (λ (y : List Message). In (Accepted v b l c) y) (ap (said_in from) read) h)
    brings v b l c (own_vote other first others commands is otherwise up mine told) =
        subst IsPlain (says_so from other bytes others w (frame.Accept b first commands) read is otherwise) plain

-- an Accepted that came
accepted_stage : (place : Place) (s : Standing) (from : ℕ) (bytes : List ℕ) (old : List Message) (ballot : Ballot) (slot : ℕ) (commands : List Command) (new : Learned)
    → reading bytes ≡ Ok (frame.Accepted ballot slot commands) → GrowsByEach old s.learned new from ballot slot commands → Stage place s (call.Frame from bytes) old new
accepted_stage place s from bytes old ballot slot commands new read by = record {
  grows = by.grows;
  brought_in = λ v b l c h ahead. brings v b l c h ahead;
}
  where
    brings : (v : ℕ) (b : Ballot) (l : ℕ) (c : Command) → Brings place s (call.Frame from bytes) v b l c → IsOpen s.learned.log l → In (Accepted v b l c) by.grows.more
    brings v b l c (brought h) ahead = by.has_votes v b l c (subst (λ (y : List Message). In (Accepted v b l c) y) (ap (said_in from) read) h) ahead
    brings v b l c (own_vote other first others listed is otherwise up mine told) ahead =
        let clash : frame.Accepted ballot slot commands ≡ frame.Accept b first listed =
        says_so from other bytes others (frame.Accepted ballot slot commands) (frame.Accept b first listed) read is otherwise in absurd (cc)

same_accept : (a b : Ballot) (k l : ℕ) (c d : List Command) → frame.Accept a k c ≡ frame.Accept b l d → (a ≡ b) × (k ≡ l) × (c ≡ d)
same_accept a b k l c d e = ((let s : a ≡ b = cc in s), (let s : k ≡ l = cc in s), (let s : c ≡ d = cc in s))

-- an Accept that came and was voted for, as far as it is taken
accept_stage : (place : Place) (s : Standing) (from : ℕ) (bytes : List ℕ) (old : List Message) (ballot : Ballot) (slot : ℕ) (commands : List Command) (new : Learned)
    → reading bytes ≡ Ok (frame.Accept ballot slot commands) → GrowsByEach old s.learned new place.node ballot slot (command_run_at s.store ballot slot commands)
    → Stage place s (call.Frame from bytes) old new
accept_stage place s from bytes old ballot slot commands new read by = record {
  grows = by.grows;
  brought_in = λ v b l c h ahead. brings v b l c h ahead;
}
  where
    brings : (v : ℕ) (b : Ballot) (l : ℕ) (c : Command) → Brings place s (call.Frame from bytes) v b l c → IsOpen s.learned.log l → In (Accepted v b l c) by.grows.more
    brings v b l c (brought h) ahead = absurd (no_vote_proposed ballot slot commands v b l c (subst (λ (y : List Message). In (Accepted v b l c) y) (ap (said_in from) read) h))
    brings v b l c (own_vote other first others listed is otherwise up mine told) ahead =
        let same = same_accept ballot b slot first commands listed
        (says_so from other bytes others (frame.Accept ballot slot commands) (frame.Accept b first listed) read is otherwise) in
        by.has_votes v b l c
        (subst (λ (k : ℕ). In (Accepted k b l c) (answers place.node ballot slot (command_run_at s.store ballot slot commands))) (sym mine)
        (subst (λ (a : Ballot). In (Accepted place.node b l c) (answers place.node a slot (command_run_at s.store a slot commands))) (sym same.0)
        (subst (λ (k : ℕ). In (Accepted place.node b l c) (answers place.node b k (command_run_at s.store b k commands))) (sym same.1)
        (subst (λ (cs : List Command). In (Accepted place.node b l c) (answers place.node b first (command_run_at s.store b first cs))) (sym same.2) told)))) ahead

-- one that was refused
refused_stage : (place : Place) (s : Standing) (from : ℕ) (bytes : List ℕ) (old : List Message) (ballot : Ballot) (slot : ℕ) (commands : List Command) (new : Learned)
    → reading bytes ≡ Ok (frame.Accept ballot slot commands) → is_below ballot s.store.promise ≡ true → Grows old new → Stage place s (call.Frame from bytes) old new
refused_stage place s from bytes old ballot slot commands new read below grows = record {
  grows = grows;
  brought_in = λ v b l c h ahead. absurd (brings v b l c h);
}
  where
    brings : (v : ℕ) (b : Ballot) (l : ℕ) (c : Command) → Brings place s (call.Frame from bytes) v b l c → ⊥
    brings v b l c (brought h) = no_vote_proposed ballot slot commands v b l c (subst (λ (y : List Message). In (Accepted v b l c) y) (ap (said_in from) read) h)
    brings v b l c (own_vote other first others listed is otherwise up mine told) =
        let same = same_accept ballot b slot first commands listed
        (says_so from other bytes others (frame.Accept ballot slot commands) (frame.Accept b first listed) read is otherwise) in
        not_below s.store.promise b up (subst (λ (y : Ballot). Below y s.store.promise) same.0 (below_if ballot s.store.promise below))

-- ---- a frame

prepare_same : (from : ℕ) (ballot : Ballot) (slot : ℕ) (s : Standing) (b : Bool) → (if b then promising from ballot slot s else refusing from ballot slot s).after.learned ≡ s.learned
prepare_same from ballot slot s true = refl
prepare_same from ballot slot s false = refl

-- what the frame's own rule leaves
frame_stage : (g : Given) (place : Place) (s : Standing) (from : ℕ) (bytes : List ℕ) (old : List Message) (w : Wire) (u : Turn) → IsLog s.learned.log → from < s.learned.nodes
    → place.node < s.learned.nodes → Counts old s.learned → reading bytes ≡ Ok w → HasCommands w
    → taking place from w (seeing w s) ≡ Ok u → Stage place s (call.Frame from bytes) old u.after.learned
frame_stage g place s from bytes old (frame.Prepare ballot slot) u log low mine counts read has e =
    plain_stage place s from bytes (frame.Prepare ballot slot) old u.after.learned read tt
    (same_grows old s.learned u.after.learned (ap (λ (t : Turn). t.after.learned) (sym (ok_is _ u e)) ∙ prepare_same from ballot slot (seeing (frame.Prepare ballot slot) s) _) counts)
frame_stage g place s from bytes old (frame.Promise ballot slot told) u log low mine counts read has e =
    plain_stage place s from bytes (frame.Promise ballot slot told) old u.after.learned read tt (same_grows old s.learned u.after.learned (ap (λ (t : Turn). t.after.learned) (sym (ok_is _ u e))) counts)
frame_stage g place s from bytes old (frame.Refuse ballot slot promised) u log low mine counts read has e =
    plain_stage place s from bytes (frame.Refuse ballot slot promised) old u.after.learned read tt (same_grows old s.learned u.after.learned (ap (λ (t : Turn). t.after.learned) (sym (ok_is _ u e))) counts)
frame_stage g place s from bytes old (frame.Accept ballot slot commands) u log low mine counts read has e = by_test (is_below ballot s.store.promise) refl e
  where
    s0 : Standing
    s0 = seeing (frame.Accept ballot slot commands) s

    by_test : (b : Bool) → is_below ballot s.store.promise ≡ b → (if b then Ok (refusing from ballot slot s0) else voting place ballot slot commands (idle s0)) ≡ Ok u
        → Stage place s (call.Frame from bytes) old u.after.learned
    by_test true eb h =
        refused_stage place s from bytes old ballot slot commands u.after.learned read eb (same_grows old s.learned u.after.learned (ap (λ (t : Turn). t.after.learned) (sym (ok_is _ u h))) counts)
    by_test false eb h =
        let v = voted_so place ballot slot commands s0 u h in
        let told : List Command = command_run_at s.store ballot slot commands in
        let short : length told ≤ WINDOW = (let l = g.command_run_most s.store ballot slot commands in let most = has.1 in omega (arith, l, most)) in
        subst (Stage place s (call.Frame from bytes) old) (sym v.learned)
        (accept_stage place s from bytes old ballot slot commands (hearing_run s.learned place.node ballot slot told) read
        (votes_grow g old s.learned place.node ballot slot told log mine short v.ok counts))
frame_stage g place s from bytes old (frame.Accepted ballot slot commands) u log low mine counts read has e =
    let s0 : Standing = seeing (frame.Accepted ballot slot commands) s in
    let is = learning_is place (answer_to_run s.learned from ballot slot commands) (hearing_run s.learned from ballot slot commands) s0 u e in
    subst (Stage place s (call.Frame from bytes) old) (sym is.1)
    (accepted_stage place s from bytes old ballot slot commands (hearing_run s.learned from ballot slot commands) read
    (votes_grow g old s.learned from ballot slot commands log low has.1 is.0 counts))
frame_stage g place s from bytes old (frame.Chosen slot command) u log low mine counts read has e =
    let is = believed place from slot command (seeing (frame.Chosen slot command) s) u e in
    plain_stage place s from bytes (frame.Chosen slot command) old u.after.learned read tt
    (subst (Grows old) (sym is.1) (belief_grows g old s.learned slot command log counts))
frame_stage g place s from bytes old (frame.Ask slot) u log low mine counts read has e =
    plain_stage place s from bytes (frame.Ask slot) old u.after.learned read tt (same_grows old s.learned u.after.learned (ap (λ (t : Turn). t.after.learned) (sym (ok_is _ u e))) counts)
frame_stage g place s from bytes old (frame.Forward act) u log low mine counts read has e =
    plain_stage place s from bytes (frame.Forward act) old u.after.learned read tt (same_grows old s.learned u.after.learned (ap (λ (t : Turn). t.after.learned) (sym (ok_is _ u e))) counts)

-- a stage, the close, and what is asked for then
asked_ok : (from : ℕ) (w : Wire) (r : Result Turn Refusal) (turn : Turn) → and_then r (λ closed. Ok (asking from w closed)) ≡ Ok turn → (c : Turn) × (r ≡ Ok c) × (turn.after ≡ c.after)
asked_ok from w (Err e) turn h = absurd (cc)
asked_ok from w (Ok c) turn h = (c, refl, ap (λ (t : Turn). t.after) (sym (ok_is (joined c (asking from w c.after)) turn h)) ∙ asked_same from w c.after)

whole_frame : (x : Scope) (s : Standing) (from : ℕ) (bytes : List ℕ) (old : List Message) (w : Wire) (turn : Turn) → x.ends ≡ true → Runs x s
    → x.messages ≡ carried from w → IsSent x.place x.world.ever from (carried from w) → IsLog s.learned.log → s.learned.nodes ≡ x.place.nodes → Counts old s.learned
    → reading bytes ≡ Ok w
    → and_then (and_then (taking x.place from w (seeing w s)) (closing x.place)) (λ closed. Ok (asking from w closed)) ≡ Ok turn
    → Stage x.place s (call.Frame from bytes) old turn.after.learned
whole_frame x s from bytes old w turn ends r one sent log nodes counts read e =
    let a = asked_ok from w (and_then (taking x.place from w (seeing w s)) (closing x.place)) turn e in
    let has = x.given.has_commands bytes w read in
    let goes = taken x s from w has ends r one sent in
    subst (λ (y : Standing). Stage x.place s (call.Frame from bytes) old y.learned) (sym a.2)
    (stage_closed x [] (hearing_of s (first_in x)) s (call.Frame from bytes) old (taking x.place from w (seeing w s)) a.0 goes
    (λ u eu. frame_stage x.given x.place s from bytes old w u log (subst (λ (n : ℕ). from < n) (sym nodes) sent.node)
    (subst (λ (n : ℕ). x.place.node < n) (sym nodes) x.is_place.node) counts read has eu) a.1)

-- ---- a tick, and a piece of a seat's bytes

tick_same : (place : Place) (s : Standing) (u : Turn) → ticking place s ≡ Ok u → u.after.learned ≡ s.learned
tick_same place s u e = by_tests (is_over place s) (is_spent s) e
  where
    by_tests : (over spent : Bool) → (if over then Ok (still s) else if spent then Err Spent else Ok (beginning place (next_ballot place.node (greatest_seen s)) s)) ≡ Ok u → u.after.learned ≡ s.learned
    by_tests true spent h = ap (λ (t : Turn). t.after.learned) (sym (ok_is _ u h))
    by_tests false true h = absurd (cc)
    by_tests false false h = ap (λ (t : Turn). t.after.learned) (sym (ok_is _ u h))

answers_same : (place : Place) (seat : ℕ) (answers : List (Result Saying SessionFault)) (t : Turn) → (answering_all place seat answers t).after.learned ≡ t.after.learned
unfolding answering_all
answers_same place seat [] t = refl
answers_same place seat (said ∷ more_said) t = answers_same place seat more_said (joined t (answering place seat said t.after)) ∙ same_learned place seat said t.after

piece_same : (place : Place) (seat : ℕ) (bytes : List ℕ) (talk : Option Talk) (s : Standing) (heard : Turn) → HearsPiece place seat bytes talk s heard → heard.after.learned ≡ s.learned
piece_same place seat bytes None s heard h = ap (λ (t : Turn). t.after.learned) h
piece_same place seat bytes (Some old) s heard (answers, new, drains, h) =
    ap (λ (t : Turn). t.after.learned) h ∙ answers_same place seat answers (still (with_session s seat (left new)))

-- ---- every call of a node that runs

-- what bytes say, read so
frame_by : (g : Given) (own : ℕ → Command → Bool) (place : Place) (world : World) (s : Standing) (st : Stands own place world s) (up : s.up ≡ true) (from : ℕ) (bytes : List ℕ) (turn : Turn) (old : List Message)
    → Comes place world.ever (call.Frame from bytes) → Counts old s.learned → (read : Result Wire FrameFault) → reading bytes ≡ read → on_read place from read s ≡ Ok turn
    → Stage place s (call.Frame from bytes) old turn.after.learned
frame_by g own place world s st up from bytes turn old comes counts (Err fault) er h = absurd (cc)
frame_by g own place world s st up from bytes turn old comes counts (Ok w) er h =
    let x : Scope = scope_of g own place world s st true (came_in (call.Frame from bytes)) in
    let same : said_in from (reading bytes) ≡ carried from w = ap (said_in from) er in
    let l = (st.of.runs up).knows.learner in
    whole_frame x s from bytes old w turn refl (runs_in g own place world s st up true (came_in (call.Frame from bytes))) same
    (subst (IsSent place world.ever from) same comes) l.log l.nodes counts er h

stage_of : (g : Given) (own : ℕ → Command → Bool) (place : Place) (world : World) (s : Standing) (st : Stands own place world s) (up : s.up ≡ true) (called : Call) (turn : Turn) (old : List Message)
    → Comes place world.ever called → IsTurnUp place s called (Ok turn) → turn.after.up ≡ true → Counts old s.learned → Stage place s called old turn.after.learned
stage_of g own place world s st up (Start found) turn old comes h runs counts =
    quiet_stage place s (Start found) old turn.after.learned refl (same_grows old s.learned turn.after.learned (ap (λ (t : Turn). t.after.learned) (ok_is turn (still s) h)) counts)
stage_of g own place world s st up Tick turn old comes h runs counts =
    let x : Scope = scope_of g own place world s st true [] in
    let r : Runs x s = runs_in g own place world s st up true [] in
    stage_closed x [] (hearing_of s (first_in x)) s Tick old (ticking place s) turn
    (stood x [] (hearing_of s (first_in x)) s (ticking place s) (tick x [] (hearing_of s (first_in x)) (still s) refl (begin x s r refl)))
    (λ u eu. quiet_stage place s Tick old u.after.learned refl (same_grows old s.learned u.after.learned (tick_same place s u eu) counts)) (sym h)
stage_of g own place world s st up Away turn old comes h runs counts =
    let o = order_turn g own place world s st up turn h in
    stage_closed (scope g own place world s st Away) o.sits.came o.sits.heard s Away old (Ok (played_for place o.act s)) turn o.sits.path
    (λ u eu. quiet_stage place s Away old u.after.learned refl
    (same_grows old s.learned u.after.learned (ap (λ (t : Turn). t.after.learned) (sym (ok_is (played_for place o.act s) u eu))) counts))
    (ap (λ (r : Result Turn Refusal). behind (played_for place o.act s) r) o.closes.is ∙ ap (λ (t : Turn). let r : Result Turn Refusal = Ok t in r) (sym o.whole))
stage_of g own place world s st up (call.Frame from bytes) turn old comes h runs counts =
    frame_by g own place world s st up from bytes turn old comes counts (reading bytes) refl (sym h)
stage_of g own place world s st up (Line seat bytes) turn old comes (heard, hears, h) runs counts =
    let x : Scope = scope_of g own place world s st true [] in
    let sits = (piece_sits x s seat bytes heard (runs_in g own place world s st up true []) refl comes hears).0 in
    stage_closed x sits.came sits.heard s (Line seat bytes) old (Ok heard) turn sits.path
    (λ u eu. quiet_stage place s (Line seat bytes) old u.after.learned refl
    (same_grows old s.learned u.after.learned (ap (λ (t : Turn). t.after.learned) (sym (ok_is heard u eu)) ∙ piece_same place seat bytes (session_at s.sessions seat) s heard hears) counts)) (sym h)
stage_of g own place world s st up (Connect seat) turn old comes h runs counts =
    quiet_stage place s (Connect seat) old turn.after.learned refl (same_grows old s.learned turn.after.learned (ap (λ (t : Turn). t.after.learned) (ok_is turn (connecting seat s) h)) counts)
stage_of g own place world s st up (Drop seat) turn old comes h runs counts =
    quiet_stage place s (Drop seat) old turn.after.learned refl (same_grows old s.learned turn.after.learned (ap (λ (t : Turn). t.after.learned) (ok_is turn (dropping seat s) h)) counts)
stage_of g own place world s st up Stop turn old comes h runs counts =
    absurd (true≢false (sym runs ∙ ap (λ (t : Turn). t.after.up) (ok_is turn (stopping place s) h)))

-- what is counted after an answered call
abbrev stage_after : Given → (own : ℕ → Command → Bool) (place : Place) (world : World) (s : Standing) (called : Call) (turn : Turn) (answered : IsAnswered own place world s called turn) (up : s.up ≡ true)
    → (taken : IsTaken own place world s called turn) → Stage place s called (in_time own place s (world.nodes place.node) answered.stands.of up) turn.after.learned
stage_after g own place world s called turn answered up taken =
    let l = (answered.stands.of.runs up).knows.learner in
    stage_of g own place world s answered.stands up called turn l.in_time answered.comes
    (subst (λ (b : Bool). IsTurnBy b place s called (Ok turn)) up answered.turn_is) answered.runs
    (record { counts_from = l.counts; counts_all = l.counts_all; knows_chosen = l.knows_chosen })

open_of : (s : Standing) (slot : ℕ) → IsAhead s slot → IsOpen s.learned.log slot
open_of s slot a = record { reached = a.reached; within = a.within; is_slot = a.is_slot }

-- a vote that was had in time, or is brought in time, is counted
in_more : (own : ℕ → Command → Bool) (place : Place) (world : World) (s : Standing) (called : Call) (turn : Turn) (st : Stands own place world s) (up : s.up ≡ true) (taken : IsTaken own place world s called turn)
    → (stage : Stage place s called (in_time own place s (world.nodes place.node) st.of up) turn.after.learned) (voter : ℕ) (ballot : Ballot) (slot : ℕ) (command : Command)
    → HasVote own place world s called turn st up taken voter ballot slot command → In (Accepted voter ballot slot command) stage.grows.more
in_more own place world s called turn st up taken stage voter ballot slot command (inl had) = stage.grows.kept (Accepted voter ballot slot command) had
in_more own place world s called turn st up taken stage voter ballot slot command (inr new) = stage.brought_in voter ballot slot command new.0 (open_of s slot new.1)

pub votes_stay_in_time : Given → VotesStayInTime
votes_stay_in_time g own place world s called turn voter ballot slot command answered up taken low is_slot reached had =
    let stage = stage_after g own place world s called turn answered up taken in
    let l = (taken.called.of.runs answered.runs).knows.learner in
    had_in_time g place.nodes taken.called.last.has taken.called.last.known turn.after.learned stage.grows.more voter ballot slot command l stage.grows.counts.counts_all low reached is_slot
    (in_more own place world s called turn answered.stands up taken stage voter ballot slot command had)

pub quorum_is_known : Given → QuorumIsKnown
quorum_is_known g own place world s called turn ballot slot command answered up taken quorum most votes =
    let stage = stage_after g own place world s called turn answered up taken in
    let l = (taken.called.of.runs answered.runs).knows.learner in
    known_by_quorum place.nodes taken.called.last.has taken.called.last.known turn.after.learned stage.grows.more ballot slot command l stage.grows.counts.knows_chosen
    (quorum, most, λ voter below is. in_more own place world s called turn answered.stands up taken stage voter ballot slot command (votes voter below is))

-- ---- what was told is known

is_open_if : (s : Standing) (slot : ℕ) → IsAhead s slot → is_open s.learned.log slot ≡ true
is_open_if s slot a = λ j. if le-ltb slot (front_of s) a.reached j then false
    else if lt-ltb slot (front_of s + WINDOW) a.within j then lt-ltb slot SLOTS a.is_slot j
    else false

known_so : (g : Given) (l : Learned) (slot : ℕ) (command : Command) (held : Option Command) → IsLog l.log → slot < SLOTS → known_at l.log slot ≡ held → is_other held command ≡ false
    → known_at (if is_none held then with_command l.log slot command else l.log) slot ≡ Some command
known_so g l slot command None log is_slot e same =
    (g.one_more l.log slot command log is_slot e).1 slot ∙ ap (λ (b : Bool). if b then Some command else known_at l.log slot) (eq-eqb slot slot refl)
known_so g l slot command (Some other) log is_slot e same = e ∙ ap (λ (c : Command). Some c) ((g.same other command).0 (not-false (is_same other command) same))

never_ok : (r : Result (Unit {0}) SlotFault) → r ≡ Err KnownOther → IsOk r → ⊥
never_ok (Ok a) e h = cc
never_ok (Err f) e h = cc

-- what is believed at a slot ahead is known there
believed_known : (g : Given) (s : Standing) (slot : ℕ) (command : Command) → IsLog s.learned.log → IsAhead s slot → IsOk (answer_to_chosen s.learned.log slot command)
    → known_at (with_chosen s.learned slot command).log slot ≡ Some command
believed_known g s slot command log ahead ok = by_other (is_other (known_at s.learned.log slot) command) refl
  where
    opened : is_open s.learned.log slot ≡ true
    opened = is_open_if s slot ahead

    by_other : (b : Bool) → is_other (known_at s.learned.log slot) command ≡ b → known_at (with_chosen s.learned slot command).log slot ≡ Some command
    by_other true e =
        let refused : answer_to_chosen s.learned.log slot command ≡ Err KnownOther =
        (λ j. if not (opened j) then Ok tt else if e j then Err KnownOther else Ok tt) in
        absurd (never_ok (answer_to_chosen s.learned.log slot command) refused ok)
    by_other false e =
        (λ j. known_at (let k : Learned = if not (opened j) then s.learned else if e j then s.learned else knowing s.learned slot command in k.log) slot)
        ∙ known_so g s.learned slot command (known_at s.learned.log slot) log ahead.is_slot refl e

-- the close learns nothing
close_log : (place : Place) (s : Standing) (node : Node) (c : Turn) → Closes place s node c → c.after.learned.log ≡ s.learned.log
close_log place s node c (gives_up e) = ap (λ (t : Turn). t.after.learned.log) e
close_log place s node c (rests e) = ap (λ (t : Turn). t.after.learned.log) e
close_log place s node c (makes k made is o fresh e) = ap (λ (t : Turn). t.after.learned.log) e ∙ fresh.over.log

told_log : (x : Scope) (s : Standing) (from slot : ℕ) (command : Command) (turn : Turn) → Goes x [] (hearing_of s (first_in x)) (taking x.place from (frame.Chosen slot command) s)
    → on_message x.place from (frame.Chosen slot command) s ≡ Ok turn
    → IsOk (answer_to_chosen s.learned.log slot command) × (turn.after.learned.log ≡ (with_chosen s.learned slot command).log)
told_log x s from slot command turn goes e = by_taken (taking x.place from (frame.Chosen slot command) s) refl goes
  where
    a : (c : Turn) × (and_then (taking x.place from (frame.Chosen slot command) s) (closing x.place) ≡ Ok c) × (turn.after ≡ c.after)
    a = asked_ok from (frame.Chosen slot command) (and_then (taking x.place from (frame.Chosen slot command) s) (closing x.place)) turn e

    by_taken : (r : Result Turn Refusal) → taking x.place from (frame.Chosen slot command) s ≡ r → Goes x [] (hearing_of s (first_in x)) r
        → IsOk (answer_to_chosen s.learned.log slot command) × (turn.after.learned.log ≡ (with_chosen s.learned slot command).log)
    by_taken (Err f) er p = let clash : ◌≡◌ {A = Result Turn Refusal} (Err f) (Ok a.0) = ap (λ (r : Result Turn Refusal). and_then r (closing x.place)) (sym er) ∙ a.1 in absurd (cc)
    by_taken (Ok u) er p =
        let is = believed x.place from slot command s u er in
        let b = behind_ok u (closing x.place u.after) a.0 (ap (λ (r : Result Turn Refusal). and_then r (closing x.place)) (sym er) ∙ a.1) in (
          is.0,
          ap (λ (y : Standing). y.learned.log) a.2 ∙ (ap (λ (y : Standing). y.learned.log) b.2
              ∙ (close_log x.place u.after p.node b.0 (closes x [] (hearing_of s (first_in x)) u p b.0 b.1) ∙ ap (λ (l : Learned). l.log) is.1)),
        )

pub told_is_known : Given → ToldIsKnown
told_is_known g own place world s from bytes turn slot command answered taken_by up read ahead =
    let st = answered.stands in
    let x : Scope = scope_of g own place world s st true (came_in (call.Frame from bytes)) in
    let same : said_in from (reading bytes) ≡ carried from (frame.Chosen slot command) = ap (said_in from) read in
    let l = (st.of.runs up).knows.learner in
    let after = (taken_by.called.of.runs answered.runs).knows.learner in
    let by = subst (λ (b : Bool). IsTurnBy b place s (call.Frame from bytes) (Ok turn)) up answered.turn_is in
    let t = told_log x s from slot command turn
    (taken x s from (frame.Chosen slot command) tt refl (runs_in g own place world s st up true (came_in (call.Frame from bytes))) same (subst (IsSent place world.ever from) same answered.comes))
    (ap (λ (r : Result Wire FrameFault). on_read place from r s) (sym read) ∙ sym by) in
    after.knows slot command (ap (λ (y : Log). known_at y slot) t.1 ∙ believed_known g s slot command l.log ahead t.0)
