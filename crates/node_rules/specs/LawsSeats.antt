-- What is made of the bytes of each seat, told by the laws of sessions over all events of a session's life, by what the node of the world has stored
-- and knows, and by the table, the front and the act that waits, as the node's readers show them.
use Rattle.std.specs.Prelude.{◌≡◌, ℕ, Bool, true, false, List, [], ◌∷◌, ◌++◌, length, Some, None, Result, Ok, Err}
use Rattle.slot_log.specs.Hand.{Hand}
use Rattle.slot_log.specs.declared.command.Command.{Command}
use Rattle.protocol_model.specs.Nodes.{Node, Knows}
use Rattle.protocol_model.specs.Worlds.{World}
use Rattle.seat_session.specs.Session.{Standing as Talk, fresh, with_piece, is_ready, is_closed, Answers}
use Rattle.seat_session.specs.Laws.{Event, fed, asked, joined, given, Happens, Gives, SkipsTo}
use Rattle.seat_session.specs.declared.said.Said.{Said}
use Rattle.seat_session.specs.declared.session_fault.SessionFault.{SessionFault}
use Rattle.dealer_kind.specs.Kind.{dealer_of}
use Rattle.node_rules.specs.Standings.{Place, Standing, front_of, hands_at}
use Rattle.node_rules.specs.Showing.{SeatFault}
use Rattle.node_rules.specs.Turns.{Turn}
use Rattle.node_rules.specs.Seats.{session_at}
use Rattle.node_rules.specs.Calls.{Call, Start, Tick, Away, Line, Connect, Drop, Stop}
use Rattle.node_rules.specs.Calls as call
use Rattle.node_rules.specs.Rules.{IsTurn}
use Rattle.node_rules.specs.Called.{Comes}
use Rattle.node_rules.specs.Sound.{Stands}
use Rattle.node_rules.specs.LawsAnswers.{acts_in, forwards, Sends}
use Rattle.node_rules.specs.LawsShown.{connected_at, ready_lines}
use Rattle.node_rules.specs.LawsPending.{first_of}

-- ---- a session's life

-- the seat has a session, and it stands where these events have led since the seat connected
pub record IsLed (place : Place) (s : Standing) (seat : ℕ) (events : List Event) : Type 0 where
  pub talk : Talk
  pub session : session_at s.sessions seat ≡ Some talk
  pub happened : Happens place.setting.game seat fresh events talk

-- it has none
abbrev pub IsUnconnected : Standing → ℕ → Type 0
IsUnconnected s seat = session_at s.sessions seat ≡ None

-- the session was asked and gave these answers, by these hands
abbrev pub asked_each : List Hand → List (Result Said SessionFault) → List Event
asked_each hands [] = []
asked_each hands (said ∷ more) = asked hands (Some said) ∷ asked_each hands more

-- how a piece leaves the session after these events, by the answers that were taken
pub data Leaves (place : Place) (after : Standing) (seat : ℕ) (events : List Event) (hands : List Hand) (bytes : List ℕ) (answers : List (Result Said SessionFault)) : Type 0 where
  -- it was asked until there was none
  goes_on : IsLed place after seat (events ++ fed bytes ∷ (asked_each hands answers ++ asked hands None ∷ [])) → Leaves place after seat events hands bytes answers
  -- the last one, and none before it, closed the session, and the seat is dropped
  closes : (before : List (Result Said SessionFault)) (last : Result Said SessionFault) (talk closed : Talk) → answers ≡ before ++ last ∷ []
      → Happens place.setting.game seat fresh (events ++ fed bytes ∷ asked_each hands before) talk → is_closed talk.phase ≡ false
      → Answers place.setting.game hands seat talk (Some last) closed → is_closed closed.phase ≡ true → IsUnconnected after seat → Leaves place after seat events hands bytes answers

-- ---- a piece

-- the faults among answers, in order
abbrev pub fault_in : ℕ → Result Said SessionFault → List SeatFault
fault_in seat (Ok said) = []
fault_in seat (Err fault) = (record { seat = seat; fault = fault }) ∷ []

abbrev pub faults_in : ℕ → List (Result Said SessionFault) → List SeatFault
faults_in seat [] = []
faults_in seat (said ∷ more) = fault_in seat said ++ faults_in seat more

-- all answers to a piece are taken, up to none or to the first that closes, by the node's table: each fault is told, each Ready shows the seat's
-- current line, the first act waits where none does, and each goes to the other node whose ballot was promised
pub record TakesAnswers (own : ℕ → Command → Bool) (place : Place) (node : Node) (s : Standing) (seat : ℕ) (bytes : List ℕ) (events : List Event) (turn : Turn) : Type 0 where
  pub answers : List (Result Said SessionFault)
  pub leaves : Leaves place turn.after seat events (hands_at place s) bytes answers
  pub faults : turn.faults ≡ faults_in seat answers
  pub before : List Command
  pub known : Knows node.known before
  pub front : front_of s ≡ length before
  pub shown : turn.shown ≡ ready_lines ((dealer_of place.setting own).line before seat) seat answers
  pub pending : turn.after.pending ≡ first_of s.pending (acts_in answers)
  pub sends : Sends place turn (forwards place node.store.promise (acts_in answers)) []

-- the piece is passed over
pub record PassesOver (place : Place) (s : Standing) (seat : ℕ) (turn : Turn) : Type 0 where
  pub unconnected : IsUnconnected turn.after seat
  pub faults : turn.faults ≡ []
  pub shown : turn.shown ≡ []
  pub pending : turn.after.pending ≡ s.pending
  pub sends : Sends place turn [] []

-- ---- every call

-- a running node's call
abbrev pub IsCall : (own : ℕ → Command → Bool) → Place → World → Standing → Call → Turn → Type 0
IsCall own place world s called turn = Stands own place world s × Comes place world.ever called × (s.up ≡ true) × IsTurn place s called (Ok turn)

abbrev pub PiecesAreHeard : Type 0
PiecesAreHeard =
    (own : ℕ → Command → Bool) (place : Place) (world : World) (s : Standing) (seat : ℕ) (bytes : List ℕ) (events : List Event) (turn : Turn)
    → IsCall own place world s (Line seat bytes) turn → IsLed place s seat events → TakesAnswers own place (world.nodes place.node) s seat bytes events turn

-- of a seat without a session they are passed over
abbrev pub OthersArePassedOver : Type 0
OthersArePassedOver =
    (own : ℕ → Command → Bool) (place : Place) (world : World) (s : Standing) (seat : ℕ) (bytes : List ℕ) (turn : Turn)
    → IsCall own place world s (Line seat bytes) turn → IsUnconnected s seat → PassesOver place s seat turn

-- a seat that connects, again too, has a new session
abbrev pub ConnectBeginsAnew : Type 0
ConnectBeginsAnew =
    (own : ℕ → Command → Bool) (place : Place) (world : World) (s : Standing) (seat : ℕ) (turn : Turn)
    → IsCall own place world s (Connect seat) turn → IsLed place turn.after seat []

abbrev pub DropEnds : Type 0
DropEnds =
    (own : ℕ → Command → Bool) (place : Place) (world : World) (s : Standing) (seat : ℕ) (turn : Turn)
    → IsCall own place world s (Drop seat) turn → IsUnconnected turn.after seat

-- the call is about the seat, or ends all sessions
abbrev pub IsAbout : ℕ → Call → Type 0
IsAbout seat (Start found) = ⊥
IsAbout seat Tick = ⊥
IsAbout seat Away = ⊥
IsAbout seat (call.Frame from bytes) = ⊥
IsAbout seat (Line other bytes) = other ≡ seat
IsAbout seat (Connect other) = other ≡ seat
IsAbout seat (Drop other) = other ≡ seat
IsAbout seat Stop = Unit {0}

-- no other call changes a seat's session
abbrev pub SessionsStay : Type 0
SessionsStay =
    (own : ℕ → Command → Bool) (place : Place) (world : World) (s : Standing) (called : Call) (seat : ℕ) (turn : Turn)
    → IsCall own place world s called turn → (IsAbout seat called → ⊥) → session_at turn.after.sessions seat ≡ session_at s.sessions seat

-- no call but a piece tells of a fault
abbrev pub IsPiece : Call → Type 0
IsPiece (Start found) = ⊥
IsPiece Tick = ⊥
IsPiece Away = ⊥
IsPiece (call.Frame from bytes) = ⊥
IsPiece (Line seat bytes) = Unit {0}
IsPiece (Connect seat) = ⊥
IsPiece (Drop seat) = ⊥
IsPiece Stop = ⊥

abbrev pub FaultsAreOfPieces : Type 0
FaultsAreOfPieces =
    (own : ℕ → Command → Bool) (place : Place) (world : World) (s : Standing) (called : Call) (turn : Turn)
    → IsCall own place world s called turn → (IsPiece called → ⊥) → turn.faults ≡ []

-- the answers taken over a session's life are those to its pieces, joined, each by the table of its time; and the seat is connected exactly where its
-- session is ready
abbrev pub LivesAreWhole : Type 0
LivesAreWhole =
    (place : Place) (s : Standing) (seat : ℕ) (events : List Event) → (led : IsLed place s seat events)
    → (last : Talk) × Gives place.setting.game seat (with_piece fresh (joined events)) (given events) last × SkipsTo last led.talk
    × (connected_at s seat ≡ is_ready led.talk.phase)

abbrev pub UnconnectedSeatsShowSo : Type 0
UnconnectedSeatsShowSo = (s : Standing) (seat : ℕ) → IsUnconnected s seat → connected_at s seat ≡ false
