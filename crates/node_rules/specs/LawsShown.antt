-- What each call shows, told by what came, by the commands that the node of the world knows and what it has heard of seats, and by which seats are
-- connected, as its readers show it.
use Rattle.std.specs.Prelude.{◌≡◌, ◌≢◌, ℕ, zero, suc, ◌+◌, ◌⊎◌, Bool, true, false, if◌then◌else◌, List, [], ◌∷◌, ◌++◌, length, reverse, Option, Some, None, Result, Ok, Err}
use Rattle.slot_log.specs.declared.command.Command.{Command}
use Rattle.protocol_model.specs.Dealers.{Dealer, Seat, Log}
use Rattle.protocol_model.specs.Nodes.{Node, Knows}
use Rattle.protocol_model.specs.Worlds.{World}
use Rattle.seat_session.specs.declared.said.Said.{Said}
use Rattle.seat_session.specs.declared.said.Said.TheVariants.{Ready, Act}
use Rattle.seat_session.specs.declared.session_fault.SessionFault.{SessionFault}
use Rattle.dealer_kind.specs.Kind.{dealer_of}
use Rattle.node_rules.specs.Standings.{Place, Standing, front_of, hands_at}
use Rattle.node_rules.specs.Sending.{Frame}
use Rattle.node_rules.specs.Showing.{Piece, is_connected}
use Rattle.node_rules.specs.Turns.{Turn}
use Rattle.node_rules.specs.Seats.{session_at}
use Rattle.node_rules.specs.Calls.{Call, Start, Tick, Away, Line, Connect, Drop, Stop}
use Rattle.node_rules.specs.Calls as call
use Rattle.node_rules.specs.Rules.{IsTurn}
use Rattle.node_rules.specs.Being.{IsOf}
use Rattle.node_rules.specs.Called.{Comes, Ends}
use Rattle.node_rules.specs.Sound.{Stands}
use Rattle.node_rules.specs.LawsAnswers.{Hears}

-- the seat is connected, as the node's reader shows it
abbrev pub connected_at : Standing → ℕ → Bool
connected_at s seat = is_connected (session_at s.sessions seat)

-- ---- what a command shows

-- a line to a seat, where there is one
abbrev pub line_to : ℕ → Option (List ℕ) → List Piece
line_to seat None = []
line_to seat (Some text) = (record { reader = Seat seat; text = text }) ∷ []

-- of so many seats from one on, in order, each that is connected gets the dealer's line after these commands
abbrev pub lines_from : Dealer → (ℕ → Bool) → List Command → ℕ → ℕ → List Piece
lines_from dealer connected commands seat zero = []
lines_from dealer connected commands seat (suc more) =
    (if connected seat then line_to seat (dealer.line commands seat) else []) ++ lines_from dealer connected commands (seat + 1) more

-- the log gets what the command adds to it, in one piece, or nothing where it adds nothing
abbrev pub IsAdded : Dealer → List Command → Command → List Piece → Type 0
IsAdded dealer before command pieces =
    ((pieces ≡ []) × (dealer.log (command ∷ before) ≡ dealer.log before))
    ⊎ ((text : List ℕ) × (text ≢ []) × (pieces ≡ (record { reader = Log; text = text }) ∷ []) × (dealer.log (command ∷ before) ≡ dealer.log before ++ text))

-- a command that takes effect after those before it shows its line to each connected seat, in seat order, and then what it adds to the log; any other
-- shows nothing
abbrev pub IsShownOf : Dealer → (ℕ → Bool) → ℕ → List Command → Command → List Piece → Type 0
IsShownOf dealer connected players before command pieces =
    ((dealer.fits before command ≡ false) × (pieces ≡ []))
    ⊎ ((log : List Piece) × (dealer.fits before command ≡ true) × IsAdded dealer before command log
    × (pieces ≡ lines_from dealer connected (command ∷ before) 0 players ++ log))

-- commands one after another, oldest first, each after all those before it
abbrev pub AreShownOf : Dealer → (ℕ → Bool) → ℕ → List Command → List Command → List Piece → Type 0
AreShownOf dealer connected players before [] pieces = pieces ≡ []
AreShownOf dealer connected players before (command ∷ later) pieces =
    (first : List Piece) × (rest : List Piece) × IsShownOf dealer connected players before command first × (pieces ≡ first ++ rest)
    × AreShownOf dealer connected players (command ∷ before) later rest

-- ---- which commands

-- the commands before the front at a call's beginning, newest first, and those that the front then passed, oldest first: all are known
pub record Passes (own : ℕ → Command → Bool) (place : Place) (node : Node) (s : Standing) (turn : Turn) (before later : List Command) : Type 0 where
  pub known : Knows node.known before
  pub front : front_of s ≡ length before
  pub known_after : (last : Node) → IsOf own place turn.after last → Knows last.known (reverse later ++ before)
  pub front_after : front_of turn.after ≡ length (reverse later ++ before)

-- ---- seats that get ready

-- the current line, where the seat gets ready
abbrev pub line_on : Option (List ℕ) → ℕ → Result Said SessionFault → List Piece
line_on line seat (Ok Ready) = line_to seat line
line_on line seat (Ok (Act act)) = []
line_on line seat (Err fault) = []

abbrev pub ready_lines : Option (List ℕ) → ℕ → List (Result Said SessionFault) → List Piece
ready_lines line seat [] = []
ready_lines line seat (said ∷ more) = line_on line seat said ++ ready_lines line seat more

-- what a piece of a seat's bytes shows, where this was heard of the seat before: the seat's current line where it gets ready
abbrev pub ShowsHeard : (own : ℕ → Command → Bool) → Place → Standing → Node → ℕ → List ℕ → Option (List ℕ) → Turn → Type 0
ShowsHeard own place s node seat bytes None turn = turn.shown ≡ []
ShowsHeard own place s node seat bytes (Some heard) turn =
    (answers : List (Result Said SessionFault)) × (before : List Command)
    × Hears place.setting.game (hands_at place s) seat heard bytes answers × Knows node.known before × (front_of s ≡ length before)
    × (turn.shown ≡ ready_lines ((dealer_of place.setting own).line before seat) seat answers)

-- ---- every call

-- what a node that runs shows in a call
abbrev pub ShowsUp : (own : ℕ → Command → Bool) → Place → Standing → Node → Call → Turn → Type 0
ShowsUp own place s node (Start found) turn = turn.shown ≡ []
ShowsUp own place s node Tick turn = turn.shown ≡ []
ShowsUp own place s node Away turn = turn.shown ≡ []
ShowsUp own place s node (call.Frame from bytes) turn =
    (before : List Command) × (later : List Command) × Passes own place node s turn before later
    × AreShownOf (dealer_of place.setting own) (connected_at s) place.setting.game.players before later turn.shown
ShowsUp own place s node (Line seat bytes) turn = ShowsHeard own place s node seat bytes (node.heard seat) turn
ShowsUp own place s node (Connect seat) turn = turn.shown ≡ []
ShowsUp own place s node (Drop seat) turn = turn.shown ≡ []
ShowsUp own place s node Stop turn = turn.shown ≡ []

-- and one that is down: a start begins a log, with what it is before the first command
abbrev pub ShowsDown : (own : ℕ → Command → Bool) → Place → Call → Turn → Type 0
ShowsDown own place (Start found) turn = turn.shown ≡ (record { reader = Log; text = (dealer_of place.setting own).log [] }) ∷ []
ShowsDown own place Tick turn = ⊥
ShowsDown own place Away turn = ⊥
ShowsDown own place (call.Frame from bytes) turn = ⊥
ShowsDown own place (Line seat bytes) turn = ⊥
ShowsDown own place (Connect seat) turn = ⊥
ShowsDown own place (Drop seat) turn = ⊥
ShowsDown own place Stop turn = turn.shown ≡ []

abbrev pub ShowsBy : Bool → (own : ℕ → Command → Bool) → Place → Standing → Node → Call → Turn → Type 0
ShowsBy true own place s node called turn = ShowsUp own place s node called turn
ShowsBy false own place s node called turn = ShowsDown own place called turn

abbrev pub CallsShow : Type 0
CallsShow =
    (own : ℕ → Command → Bool) (place : Place) (world : World) (s : Standing) (called : Call) (turn : Turn)
    → Stands own place world s → Comes place world.ever called → IsTurn place s called (Ok turn)
    → ShowsBy (world.nodes place.node).up own place s (world.nodes place.node) called turn

-- ---- a node that is down

-- its readers show an empty table, front 0, no act that waits, and no seat connected
pub record ShowsNothing (place : Place) (s : Standing) : Type 0 where
  pub hands : hands_at place s ≡ []
  pub front : front_of s ≡ 0
  pub pending : s.pending ≡ None
  pub seats : (seat : ℕ) → connected_at s seat ≡ false

-- a node shows nothing as soon as it goes down, by whatever way a call ends, as long as it is down, and once it has started
abbrev pub DownShowsNothing : Type 0
DownShowsNothing =
    (own : ℕ → Command → Bool) (place : Place) (world : World) (s : Standing) (called : Call) (after : Standing) (frames : List Frame) (shown : List Piece)
    → Stands own place world s → Comes place world.ever called → Ends place s called after frames shown
    → (s.up ≡ false → ShowsNothing place s) → (after.up ≡ false) ⊎ (s.up ≡ false) → ShowsNothing place after
