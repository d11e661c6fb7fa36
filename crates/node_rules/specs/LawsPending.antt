-- Which act waits after each call, told by what came, by the commands that the node of the world knows and what it has heard of seats, and by the act
-- that waited before, as the node's reader shows it.
use Rattle.std.specs.Prelude.{◌≡◌, ℕ, Bool, true, if◌then◌else◌, List, [], ◌∷◌, length, Option, Some, None, Result, Ok}
use Rattle.paxos_wire.specs.declared.message.Message.{Message}
use Rattle.paxos_wire.specs.declared.message.Message.TheVariants as frame
use Rattle.paxos_wire.specs.Faults.{reading}
use Rattle.slot_log.specs.declared.command.Command.{Command}
use Rattle.protocol_model.specs.Dealers.{Dealer}
use Rattle.protocol_model.specs.Nodes.{Node, Knows}
use Rattle.protocol_model.specs.Worlds.{World}
use Rattle.seat_session.specs.declared.said.Said.{Said}
use Rattle.seat_session.specs.declared.session_fault.SessionFault.{SessionFault}
use Rattle.dealer_kind.specs.Kind.{dealer_of}
use Rattle.node_rules.specs.Standings.{Place, Standing, front_of, hands_at}
use Rattle.node_rules.specs.Turns.{Turn}
use Rattle.node_rules.specs.Seats.{away_at}
use Rattle.node_rules.specs.Calls.{Call, Start, Tick, Away, Line, Connect, Drop, Stop}
use Rattle.node_rules.specs.Calls as call
use Rattle.node_rules.specs.Rules.{IsTurn}
use Rattle.node_rules.specs.Called.{Comes}
use Rattle.node_rules.specs.Sound.{Stands}
use Rattle.node_rules.specs.LawsAnswers.{acts_in, Hears}
use Rattle.node_rules.specs.LawsShown.{Passes}

-- ---- an act comes

-- it waits where none does
abbrev pub first_of : Option Command → List Command → Option Command
first_of (Some act) acts = Some act
first_of None [] = None
first_of None (act ∷ acts) = Some act

-- ---- commands are applied

-- the act that waits is forgotten as soon as it doesn't fit
abbrev pub kept_if : Bool → Command → Option Command
kept_if fits act = if fits then Some act else None

-- over these commands, oldest first, each after all those before it
abbrev pub kept_over : Dealer → List Command → List Command → Option Command → Option Command
kept_over dealer before later None = None
kept_over dealer before [] (Some act) = Some act
kept_over dealer before (command ∷ later) (Some act) = kept_over dealer (command ∷ before) later (kept_if (dealer.fits (command ∷ before) act) act)

-- ---- every call

-- an act that is handed on, where it fits
abbrev pub handed_on : Dealer → List Command → Message → List Command
handed_on dealer before (frame.Prepare ballot slot) = []
handed_on dealer before (frame.Promise ballot slot told) = []
handed_on dealer before (frame.Refuse ballot slot promised) = []
handed_on dealer before (frame.Accept ballot slot commands) = []
handed_on dealer before (frame.Accepted ballot slot commands) = []
handed_on dealer before (frame.Chosen slot command) = []
handed_on dealer before (frame.Ask slot) = []
handed_on dealer before (frame.Forward act) = if dealer.fits before act then act ∷ [] else []

-- a piece of a seat's bytes, where this was heard of the seat before: the first act that the session gives waits, where none does
abbrev pub WaitsHeard : Place → Standing → ℕ → List ℕ → Option (List ℕ) → Turn → Type 0
WaitsHeard place s seat bytes None turn = turn.after.pending ≡ s.pending
WaitsHeard place s seat bytes (Some heard) turn =
    (answers : List (Result Said SessionFault)) × Hears place.setting.game (hands_at place s) seat heard bytes answers
    × (turn.after.pending ≡ first_of s.pending (acts_in answers))

-- an order: the command that plays for the player to act of the node's hands waits, where none does
abbrev pub WaitsPlayedFor : Place → Standing → Turn → Type 0
WaitsPlayedFor place s turn = (act : Command) × (away_at place s ≡ Some act) × (turn.after.pending ≡ first_of s.pending (act ∷ []))

-- which act waits after a call of a node that runs
abbrev pub WaitsUp : (own : ℕ → Command → Bool) → Place → Standing → Node → Call → Turn → Type 0
WaitsUp own place s node (Start found) turn = turn.after.pending ≡ s.pending
WaitsUp own place s node Tick turn = turn.after.pending ≡ s.pending
WaitsUp own place s node Away turn = WaitsPlayedFor place s turn
WaitsUp own place s node (call.Frame from bytes) turn =
    (message : Message) × (before : List Command) × (later : List Command) × (reading bytes ≡ Ok message) × Passes own place node s turn before later
    × (turn.after.pending ≡ kept_over (dealer_of place.setting own) before later (first_of s.pending (handed_on (dealer_of place.setting own) before message)))
WaitsUp own place s node (Line seat bytes) turn = WaitsHeard place s seat bytes (node.heard seat) turn
WaitsUp own place s node (Connect seat) turn = turn.after.pending ≡ s.pending
WaitsUp own place s node (Drop seat) turn = turn.after.pending ≡ s.pending
WaitsUp own place s node Stop turn = turn.after.pending ≡ None

abbrev pub ActsWait : Type 0
ActsWait =
    (own : ℕ → Command → Bool) (place : Place) (world : World) (s : Standing) (called : Call) (turn : Turn)
    → Stands own place world s → Comes place world.ever called → s.up ≡ true → IsTurn place s called (Ok turn)
    → WaitsUp own place s (world.nodes place.node) called turn

-- what waits fits after the commands that the node knows below its front
abbrev pub WaitingFits : Type 0
WaitingFits =
    (own : ℕ → Command → Bool) (place : Place) (world : World) (s : Standing) (before : List Command) (act : Command)
    → Stands own place world s → s.up ≡ true → Knows (world.nodes place.node).known before → front_of s ≡ length before
    → s.pending ≡ Some act → (dealer_of place.setting own).fits before act ≡ true
