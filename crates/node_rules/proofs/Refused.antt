-- Why a call is refused.
use Rattle.std.proofs.Common.{◌≡◌, ℕ, inl, inr, Bool, true, false, if◌then◌else◌, List, Result, Ok, Err, refl, sym, ap, subst, ◌∙◌}
use Rattle.paxos_wire.specs.declared.ballot.Ballot.{Ballot}
use Rattle.paxos_wire.specs.declared.fault.FrameFault.{FrameFault}
use Rattle.paxos_wire.specs.declared.message.Message.{Message as Wire}
use Rattle.paxos_wire.specs.declared.message.Message.TheVariants as frame
use Rattle.paxos_wire.specs.Faults.{reading}
use Rattle.slot_log.specs.declared.command.Command.{Command}
use Rattle.slot_log.specs.declared.slot_fault.SlotFault.{SlotFault}
use Rattle.protocol_model.specs.Worlds.{World}
use Rattle.paxos_wire.specs.Order.{is_below}
use Rattle.proposer.specs.Campaigns.{next_ballot}
use Rattle.learner.specs.Learning.{Learned, answer_to_chosen, believing as with_chosen}
use Rattle.learner.specs.CommandRuns.{hearing_run, answer_to_run}
use Rattle.node_rules.specs.Standings.{Place, Standing, front_of, with_stored, idle}
use Rattle.node_rules.specs.Sending.{Frame, to_others}
use Rattle.node_rules.specs.Turns.{Turn, Refusal, Down, Spent, BadFrame, Conflict, NothingToAct, still, sending, joined, behind, and_then}
use Rattle.node_rules.specs.Applying.{applying}
use Rattle.node_rules.specs.Learning.{learning, asking_on}
use Rattle.protocol_model.specs.Votes.{command_run_at, taking_command_run}
use Rattle.node_rules.specs.Accepting.{refusing, voting}
use Rattle.node_rules.specs.Proposing.{greatest_seen, is_over, is_spent, beginning}
use Rattle.node_rules.specs.Seats.{connecting, dropping}
use Rattle.node_rules.specs.Calls.{Call, Start, Tick, Away, Line, Connect, Drop, Stop}
use Rattle.node_rules.specs.Calls as call
use Rattle.node_rules.specs.Rules.{asking, seeing, taking, on_read, stopping, IsTurnUp, IsTurnDown, IsTurnBy}
use Rattle.node_rules.specs.Called.{came_in, said_in, Comes, IsSent}
use Rattle.node_rules.specs.Given.{Given}
use Rattle.node_rules.specs.Sound.{Stands}
use Rattle.node_rules.specs.LawsRefused.{RefusesUp, RefusesDown, Refuses, RefusalsHaveReasons}
use Rattle.node_rules.proofs.Paths.{Scope, first_in, Goes, IsHarmless}
use Rattle.node_rules.proofs.Beginning.{hearing_of}
use Rattle.node_rules.proofs.Framing.{taken}
use Rattle.node_rules.proofs.Results.{ok_not, err_is}
use Rattle.node_rules.proofs.Chaining.{runs_in}
use Rattle.node_rules.proofs.Led.{scope, tick_splits, order_splits, message_splits, piece_splits}

-- ---- a message is refused only where another command is known, which it isn't

-- the refusal of what is learned
conflicts : {A : Type 0} (place : Place) (answer : Result A SlotFault) (learned : Learned) (s : Standing) (why : Refusal) → learning place answer learned s ≡ Err why → IsHarmless why → ⊥
conflicts place (Ok answer) learned s why e harmless = ok_not (applying place learned s) why e
conflicts place (Err fault) learned s why e harmless = subst IsHarmless (sym (err_is (Conflict s.store) why e)) harmless

conflicts_behind : {A : Type 0} (place : Place) (answer : Result A SlotFault) (learned : Learned) (s : Standing) (sent : List Frame) (why : Refusal)
    → behind (sending sent s) (learning place answer learned s) ≡ Err why → IsHarmless why → ⊥
conflicts_behind place (Ok answer) learned s sent why e harmless = ok_not (joined (sending sent s) (applying place learned s)) why e
conflicts_behind place (Err fault) learned s sent why e harmless = subst IsHarmless (sym (err_is (Conflict s.store) why e)) harmless

conflicts_asking : {A : Type 0} (place : Place) (answer : Result A SlotFault) (learned : Learned) (s : Standing) (from : ℕ) (why : Refusal)
    → and_then (learning place answer learned s) (λ told. Ok (asking_on from (front_of s) told)) ≡ Err why → IsHarmless why → ⊥
conflicts_asking place (Ok answer) learned s from why e harmless =
    ok_not (joined (applying place learned s) (asking_on from (front_of s) (applying place learned s).after)) why e
conflicts_asking place (Err fault) learned s from why e harmless = subst IsHarmless (sym (err_is (Conflict s.store) why e)) harmless

accept_conflicts : (place : Place) (from : ℕ) (ballot : Ballot) (slot : ℕ) (commands : List Command) (s : Standing) (why : Refusal) (b : Bool)
    → (if b then Ok (refusing from ballot slot s) else voting place ballot slot commands (idle s)) ≡ Err why → IsHarmless why → ⊥
accept_conflicts place from ballot slot commands s why true e harmless = ok_not (refusing from ballot slot s) why e
accept_conflicts place from ballot slot commands s why false e harmless =
    let told : List Command = command_run_at s.store ballot slot commands in
    let kept : Standing = with_stored (idle s) (taking_command_run s.store ballot slot commands) in
    conflicts_behind place (answer_to_run kept.learned place.node ballot slot told) (hearing_run kept.learned place.node ballot slot told) kept (to_others place (frame.Accepted ballot slot told)) why e harmless

message_conflicts : (place : Place) (s : Standing) (from : ℕ) (message : Wire) (why : Refusal) → taking place from message (seeing message s) ≡ Err why → IsHarmless why → ⊥
message_conflicts place s from (frame.Prepare ballot slot) why e harmless = ok_not _ why e
message_conflicts place s from (frame.Promise ballot slot told) why e harmless = ok_not _ why e
message_conflicts place s from (frame.Refuse ballot slot promised) why e harmless = ok_not _ why e
message_conflicts place s from (frame.Accept ballot slot commands) why e harmless =
    let s0 : Standing = seeing (frame.Accept ballot slot commands) s in accept_conflicts place from ballot slot commands s0 why (is_below ballot s0.store.promise) e harmless
message_conflicts place s from (frame.Accepted ballot slot commands) why e harmless =
    let s0 : Standing = seeing (frame.Accepted ballot slot commands) s in
    conflicts place (answer_to_run s0.learned from ballot slot commands) (hearing_run s0.learned from ballot slot commands) s0 why e harmless
message_conflicts place s from (frame.Chosen slot command) why e harmless =
    let s0 : Standing = seeing (frame.Chosen slot command) s in
    conflicts_asking place (answer_to_chosen s0.learned.log slot command) (with_chosen s0.learned slot command) s0 from why e harmless
message_conflicts place s from (frame.Ask slot) why e harmless = ok_not _ why e
message_conflicts place s from (frame.Forward command) why e harmless = ok_not _ why e

-- ---- every call

tick_refused : (place : Place) (s : Standing) (why : Refusal) (over spent : Bool)
    → (if over then Ok (still s) else if spent then Err Spent else Ok (beginning place (next_ballot place.node (greatest_seen s)) s)) ≡ Err why → why ≡ Spent
tick_refused place s why true spent e = absurd (ok_not (still s) why e)
tick_refused place s why false true e = sym (err_is Spent why e)
tick_refused place s why false false e = absurd (ok_not (beginning place (next_ballot place.node (greatest_seen s)) s) why e)

refused_up : (g : Given) (own : ℕ → Command → Bool) (place : Place) (world : World) (s : Standing) (called : Call) (why : Refusal) (st : Stands own place world s) → s.up ≡ true
    → Comes place world.ever called → IsTurnUp place s called (Err why) → RefusesUp called why
refused_up g own place world s (Start found) why st up comes h = ok_not (still s) why (sym h)
refused_up g own place world s Tick why st up comes h = elim (tick_splits g own place world s st up) [
  | inl split ↦ absurd (ok_not (joined split.first split.closes.turn) why (sym (h ∙ split.whole)))
  | inr none ↦ err_is why none.0 (h ∙ none.2) ∙ tick_refused place s none.0 (is_over place s) (is_spent s) none.1
]
refused_up g own place world s Away why st up comes h = elim (order_splits g own place world s st up (Err why) h) [
  | inl split ↦ absurd (ok_not split.0 why (sym split.1))
  | inr none ↦ err_is why NothingToAct none.1
]
refused_up g own place world s (call.Frame from bytes) why st up comes h = by_read (reading bytes) refl
  where
    by_read : (read : Result Wire FrameFault) → reading bytes ≡ read → (fault : FrameFault) × (reading bytes ≡ Err fault) × (why ≡ BadFrame fault)
    by_read (Err fault) e = (fault, e, err_is why (BadFrame fault) (h ∙ ap (λ (r : Result Wire FrameFault). on_read place from r s) e))
    by_read (Ok message) e =
        let x : Scope = scope g own place world s st (call.Frame from bytes) in
        let goes : Goes x _ (hearing_of s (first_in x)) (taking place from message (seeing message s)) =
        taken x s from message (g.has_commands bytes message e) refl (runs_in g own place world s st up true (came_in (call.Frame from bytes))) (ap (said_in from) e)
        (subst (λ (r : Result Wire FrameFault). IsSent place world.ever from (said_in from r)) e comes) in
        absurd (elim (message_splits g own place world s st up from bytes message e comes) [
          | inl split ↦ ok_not (joined (joined split.first split.closes.turn) (asking from message split.closes.turn.after)) why
              (sym (h ∙ (ap (λ (r : Result Wire FrameFault). on_read place from r s) e ∙ ap (λ (r : Result Turn Refusal). and_then r (λ closed. Ok (asking from message closed))) split.whole)))
          | inr none ↦ message_conflicts place s from message none.0 none.1 (subst (Goes x _ (hearing_of s (first_in x))) none.1 goes)
        ])
refused_up g own place world s (Line seat bytes) why st up comes (heard, hears, e) =
    let p = piece_splits g own place world s st up seat bytes heard comes hears in
    ok_not (joined heard p.closes.turn) why (sym (e ∙ ap (λ (k : Result Turn Refusal). behind heard k) p.closes.is))
refused_up g own place world s (Connect seat) why st up comes h = ok_not (connecting seat s) why (sym h)
refused_up g own place world s (Drop seat) why st up comes h = ok_not (dropping seat s) why (sym h)
refused_up g own place world s Stop why st up comes h = ok_not (stopping place s) why (sym h)

refused_down : (place : Place) (s : Standing) (called : Call) (why : Refusal) → IsTurnDown place s called (Err why) → RefusesDown called why
refused_down place s (Start found) why (from, h) = ok_not _ why (sym h)
refused_down place s Tick why h = err_is why Down h
refused_down place s Away why h = err_is why Down h
refused_down place s (call.Frame from bytes) why h = err_is why Down h
refused_down place s (Line seat bytes) why h = err_is why Down h
refused_down place s (Connect seat) why h = err_is why Down h
refused_down place s (Drop seat) why h = err_is why Down h
refused_down place s Stop why h = ok_not (still s) why (sym h)

refused_by : (g : Given) (own : ℕ → Command → Bool) (place : Place) (world : World) (s : Standing) (called : Call) (why : Refusal) (b : Bool) (st : Stands own place world s) → s.up ≡ b
    → Comes place world.ever called → IsTurnBy b place s called (Err why) → Refuses b called why
refused_by g own place world s called why true st up comes h = refused_up g own place world s called why st up comes h
refused_by g own place world s called why false st down comes h = refused_down place s called why h

pub refusals_have_reasons : Given → RefusalsHaveReasons
refusals_have_reasons g own place world s called why st comes h =
    subst (λ b. Refuses b called why) (sym st.of.up) (refused_by g own place world s called why s.up st refl comes h)
