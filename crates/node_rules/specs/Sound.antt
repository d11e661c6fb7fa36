-- What holds of the calls of a node in the world.
use Rattle.std.specs.Prelude.{◌≡◌, ℕ, Bool, true, false, List, Result, Ok, Err}
use Rattle.slot_log.specs.declared.command.Command.{Command}
use Rattle.protocol_model.specs.Worlds.{World, Reached}
use Rattle.dealer_kind.specs.Kind.{dealer_of}
use Rattle.node_rules.specs.Standings.{Place, Standing, front_of}
use Rattle.node_rules.specs.Sending.{Frame}
use Rattle.node_rules.specs.Showing.{Piece}
use Rattle.node_rules.specs.Turns.{Turn, Refusal}
use Rattle.node_rules.specs.Calls.{Call, Line}
use Rattle.node_rules.specs.Rules.{IsTurn, standing_after}
use Rattle.node_rules.specs.Being.{IsPlace, IsOf}
use Rattle.node_rules.specs.Called.{came_in, Comes, log_before, taken_events, failed_events, Called, Taken, Begins, Ends, events_by}

-- a reached world of the match, in which the standing is of the node
pub record Stands (own : ℕ → Command → Bool) (place : Place) (world : World) (s : Standing) : Type 0 where
  pub is_place : IsPlace own place
  pub reached : Reached (dealer_of place.setting own) place.nodes world
  pub of : IsOf own place s (world.nodes place.node)

-- the turn of such a call is a chain of the node's moves
abbrev pub IsChained : Call → Type 0
IsChained called =
    (own : ℕ → Command → Bool) (place : Place) (world : World) (s : Standing) (turn : Turn)
    → Stands own place world s → Comes place world.ever called → IsTurn place s called (Ok turn)
    → Taken own place world.ever (world.nodes place.node) (log_before place s) (came_in called) (taken_events place.node (front_of s) s.up called)
    turn.frames turn.shown turn.after

abbrev pub TurnsAreChains : Type 0
TurnsAreChains = (called : Call) → IsChained called

-- a call that stops in its append is such a chain as far as the append
abbrev pub AppendsAreBegun : Type 0
AppendsAreBegun =
    (own : ℕ → Command → Bool) (place : Place) (world : World) (s : Standing) (called : Call) (outcome : Result Turn Refusal)
    → Stands own place world s → Comes place world.ever called → s.up ≡ true → IsTurn place s called outcome
    → Begins own place world.ever (world.nodes place.node) (failed_events place.node (front_of s) called) (standing_after place s outcome).begun

-- however a call ends, it is one
abbrev pub CallsAreSound : Type 0
CallsAreSound =
    (own : ℕ → Command → Bool) (place : Place) (world : World) (s : Standing) (called : Call) (after : Standing) (frames : List Frame) (shown : List Piece)
    → Stands own place world s → Comes place world.ever called → (ends : Ends place s called after frames shown)
    → Called own place world.ever (world.nodes place.node) (log_before place s) (came_in called) (events_by place s called after frames shown ends)
    frames shown after

-- of a node that runs a line is only refused where another command was known, and then the node is down
abbrev pub LinesAreRefusedDown : Type 0
LinesAreRefusedDown =
    (place : Place) (s : Standing) (seat : ℕ) (bytes : List ℕ) (refusal : Refusal) → IsTurn place s (Line seat bytes) (Err refusal) → s.up ≡ true
    → (standing_after place s (Err refusal)).up ≡ false
