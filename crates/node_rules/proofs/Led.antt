-- The stages of each call: its rule, its close, and last the question.
use Rattle.std.proofs.Common.{◌≡◌, ℕ, ◌⊎◌, inl, inr, Bool, true, List, [], Option, Some, None, Result, Ok, Err, refl, sym, ap, subst, ◌∙◌}
use Rattle.paxos_wire.specs.declared.fault.FrameFault.{FrameFault}
use Rattle.paxos_wire.specs.declared.message.Message.{Message as Wire}
use Rattle.paxos_wire.specs.Faults.{reading}
use Rattle.slot_log.specs.declared.command.Command.{Command}
use Rattle.protocol_model.specs.Arrivals.{Arrival}
use Rattle.protocol_model.specs.Worlds.{World}
use Rattle.node_rules.specs.Standings.{Place, Standing, applied}
use Rattle.node_rules.specs.Turns.{Turn, Refusal, BadFrame, NothingToAct, still, joined, behind, and_then}
use Rattle.node_rules.specs.Proposing.{ticking, closing}
use Rattle.node_rules.specs.Seats.{session_at, away_at, ordering_by, HearsPiece}
use Rattle.node_rules.specs.Calls.{Call, Start, Tick, Away, Line, Connect, Drop, Stop}
use Rattle.node_rules.specs.Calls as call
use Rattle.node_rules.specs.Rules.{seeing, taking, asking, on_read, IsTurnUp}
use Rattle.node_rules.specs.Called.{came_in, said_in, IsSent, Comes}
use Rattle.node_rules.specs.Given.{Given}
use Rattle.node_rules.specs.Sound.{Stands}
use Rattle.node_rules.proofs.Paths.{Hearing, Scope, first_in, Path, Goes}
use Rattle.node_rules.proofs.Beginning.{hearing_of, begin}
use Rattle.node_rules.proofs.Asking.{behind_still}
use Rattle.node_rules.proofs.Ticking.{tick}
use Rattle.node_rules.proofs.Framing.{taken}
use Rattle.node_rules.proofs.Hearing.{Sits, piece_sits}
use Rattle.node_rules.proofs.Noting.{played_for, order_events, order_sits}
use Rattle.node_rules.proofs.Results.{ok_is, ok_not}
use Rattle.node_rules.proofs.Chaining.{scope_of, runs_in}
use Rattle.node_rules.proofs.Resting.{Closes, close_is, Splits, splits}

-- ---- the stages

-- the scope of the call of a node that runs
abbrev pub scope : Given → (own : ℕ → Command → Bool) (place : Place) (world : World) (s : Standing) → Stands own place world s → Call → Scope
scope g own place world s st called = scope_of g own place world s st true (came_in called)

-- the rule of a tick
pub tick_splits : (g : Given) (own : ℕ → Command → Bool) (place : Place) (world : World) (s : Standing) (st : Stands own place world s) → s.up ≡ true
    → Splits (scope g own place world s st Tick) [] (hearing_of s (world.nodes place.node)) (ticking place s) (and_then (ticking place s) (closing place))
    ⊎ ((refusal : Refusal) × (ticking place s ≡ Err refusal) × (and_then (ticking place s) (closing place) ≡ Err refusal))
tick_splits g own place world s st up =
    let x : Scope = scope g own place world s st Tick in
    splits x [] (hearing_of s (first_in x)) (ticking place s)
    (subst (Goes x [] (hearing_of s (first_in x))) (behind_still s (ticking place s)) (tick x [] (hearing_of s (first_in x)) (still s) refl (begin x s (runs_in g own place world s st up true []) refl)))

-- the rule of a frame's message
pub message_splits : (g : Given) (own : ℕ → Command → Bool) (place : Place) (world : World) (s : Standing) (st : Stands own place world s) → s.up ≡ true
    → (from : ℕ) (bytes : List ℕ) (message : Wire) → reading bytes ≡ Ok message → Comes place world.ever (call.Frame from bytes)
    → Splits (scope g own place world s st (call.Frame from bytes)) [] (hearing_of s (world.nodes place.node)) (taking place from message (seeing message s))
    (and_then (taking place from message (seeing message s)) (closing place))
    ⊎ ((refusal : Refusal) × (taking place from message (seeing message s) ≡ Err refusal) × (and_then (taking place from message (seeing message s)) (closing place) ≡ Err refusal))
message_splits g own place world s st up from bytes message read comes =
    let x : Scope = scope g own place world s st (call.Frame from bytes) in
    splits x [] (hearing_of s (first_in x)) (taking place from message (seeing message s))
    (taken x s from message (g.has_commands bytes message read) refl (runs_in g own place world s st up true (came_in (call.Frame from bytes))) (ap (said_in from) read)
    (subst (λ (r : Result Wire FrameFault). IsSent place world.ever from (said_in from r)) read comes))

-- a piece that was heard
pub record PieceSplits (x : Scope) (heard : Turn) : Type 0 where
  pub came : List Arrival
  pub hearing : Hearing
  pub path : Path x came hearing (applied heard.after) heard
  pub closes : Closes x.place heard.after (closing x.place heard.after)

pub piece_splits : (g : Given) (own : ℕ → Command → Bool) (place : Place) (world : World) (s : Standing) (st : Stands own place world s) (up : s.up ≡ true)
    → (seat : ℕ) (bytes : List ℕ) (heard : Turn) (comes : Comes place world.ever (Line seat bytes)) (hears : HearsPiece place seat bytes (session_at s.sessions seat) s heard)
    → PieceSplits (scope g own place world s st (Line seat bytes)) heard
piece_splits g own place world s st up seat bytes heard comes hears =
    let x : Scope = scope g own place world s st (Line seat bytes) in
    let sits = (piece_sits x s seat bytes heard (runs_in g own place world s st up true []) refl comes hears).0 in
    record { came = sits.came; hearing = sits.heard; path = sits.path; closes = close_is x sits.came sits.heard heard sits.path }

-- ---- an order's turn

-- a hand runs: what the order means waits and goes on, and then the close
pub record OrderTurn (x : Scope) (s : Standing) (turn : Turn) : Type 0 where
  pub act : Command
  pub next : away_at x.place s ≡ Some act
  pub sits : Sits x (played_for x.place act s) (order_events x s)
  pub closes : Closes x.place (played_for x.place act s).after (closing x.place (played_for x.place act s).after)
  pub whole : turn ≡ joined (played_for x.place act s) closes.turn

-- an order has such a turn, or no hand runs
pub order_splits : (g : Given) (own : ℕ → Command → Bool) (place : Place) (world : World) (s : Standing) (st : Stands own place world s) → s.up ≡ true
    → (outcome : Result Turn Refusal) → IsTurnUp place s Away outcome
    → ((turn : Turn) × (outcome ≡ Ok turn) × OrderTurn (scope g own place world s st Away) s turn) ⊎ ((away_at place s ≡ None) × (outcome ≡ Err NothingToAct))
order_splits g own place world s st up outcome h = by_act (away_at place s) refl h
  where
    x : Scope
    x = scope g own place world s st Away

    by_act : (act : Option Command) → away_at place s ≡ act → outcome ≡ and_then (ordering_by place act s) (closing place)
        → ((turn : Turn) × (outcome ≡ Ok turn) × OrderTurn x s turn) ⊎ ((away_at place s ≡ None) × (outcome ≡ Err NothingToAct))
    by_act None e k = inr (e, k)
    by_act (Some act) e k =
        let sits = order_sits x s act (runs_in g own place world s st up true []) refl e in
        let c = close_is x sits.came sits.heard (played_for place act s) sits.path in
        inl (joined (played_for place act s) c.turn, k ∙ ap (λ (r : Result Turn Refusal). behind (played_for place act s) r) c.is, record { act = act; next = e; sits = sits; closes = c; whole = refl })

pub order_turn : (g : Given) (own : ℕ → Command → Bool) (place : Place) (world : World) (s : Standing) (st : Stands own place world s) → s.up ≡ true
    → (turn : Turn) → IsTurnUp place s Away (Ok turn) → OrderTurn (scope g own place world s st Away) s turn
order_turn g own place world s st up turn h = elim (order_splits g own place world s st up (Ok turn) h) [
  | inl split ↦ subst (λ (t : Turn). OrderTurn (scope g own place world s st Away) s t) (sym (ok_is turn split.0 split.1)) split.2
  | inr none ↦ absurd (ok_not turn NothingToAct none.1)
]

-- ---- a frame's turn

-- the message's rule, the close, and then the question
pub record FrameTurn (x : Scope) (s : Standing) (from : ℕ) (bytes : List ℕ) (turn : Turn) : Type 0 where
  pub message : Wire
  pub read : reading bytes ≡ Ok message
  pub split : Splits x [] (hearing_of s (first_in x)) (taking x.place from message (seeing message s)) (and_then (taking x.place from message (seeing message s)) (closing x.place))
  pub whole : turn ≡ joined (joined split.first split.closes.turn) (asking from message split.closes.turn.after)

pub frame_turn : (g : Given) (own : ℕ → Command → Bool) (place : Place) (world : World) (s : Standing) (st : Stands own place world s) → s.up ≡ true
    → (from : ℕ) (bytes : List ℕ) (turn : Turn) → Comes place world.ever (call.Frame from bytes) → IsTurnUp place s (call.Frame from bytes) (Ok turn)
    → FrameTurn (scope g own place world s st (call.Frame from bytes)) s from bytes turn
frame_turn g own place world s st up from bytes turn comes h = by_read (reading bytes) refl
  where
    by_read : (read : Result Wire FrameFault) → reading bytes ≡ read → FrameTurn (scope g own place world s st (call.Frame from bytes)) s from bytes turn
    by_read (Err fault) e = absurd (ok_not turn (BadFrame fault) (h ∙ ap (λ (r : Result Wire FrameFault). on_read place from r s) e))
    by_read (Ok message) e = elim (message_splits g own place world s st up from bytes message e comes) [
      | inl split ↦ record {
        message = message;
        read = e;
        split = split;
        whole = ok_is turn (joined (joined split.first split.closes.turn) (asking from message split.closes.turn.after))
            (h ∙ (ap (λ (r : Result Wire FrameFault). on_read place from r s) e ∙ ap (λ (r : Result Turn Refusal). and_then r (λ closed. Ok (asking from message closed))) split.whole));
      }
      | inr none ↦ absurd (ok_not turn none.0
          (h ∙ (ap (λ (r : Result Wire FrameFault). on_read place from r s) e ∙ ap (λ (r : Result Turn Refusal). and_then r (λ closed. Ok (asking from message closed))) none.2)))
    ]
