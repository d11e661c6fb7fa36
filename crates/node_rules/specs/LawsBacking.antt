-- What a node has sent its stores stand behind, told by what the node of the world has stored: by what the next start may find of it.
use Rattle.std.specs.Prelude.{◌≡◌, ℕ, ◌⊎◌, Bool, List, Ok}
use Rattle.slot_log.specs.declared.command.Command.{Command}
use Rattle.protocol_model.specs.Messages.{Message}
use Rattle.protocol_model.specs.Stores.{Store}
use Rattle.protocol_model.specs.Backing.{Backs}
use Rattle.protocol_model.specs.Nodes.{Node}
use Rattle.protocol_model.specs.Worlds.{World}
use Rattle.node_rules.specs.Standings.{Place, Standing}
use Rattle.node_rules.specs.Sending.{Frame}
use Rattle.node_rules.specs.Showing.{Piece}
use Rattle.node_rules.specs.Turns.{Turn}
use Rattle.node_rules.specs.Calls.{Call}
use Rattle.node_rules.specs.Rules.{IsTurn}
use Rattle.node_rules.specs.Being.{IsOf}
use Rattle.node_rules.specs.Called.{Comes, IsSaid, Ends}
use Rattle.node_rules.specs.Sound.{Stands}

-- each store that the next start may find backs the message: the node's store, and what it is if the append that was begun went through
abbrev pub IsBacked : Node → Message → Type 0
IsBacked node message = (found : Store) → (found ≡ node.store) ⊎ (found ≡ node.begun) → Backs found message

-- each message that a turn sends is backed after it
abbrev pub SentIsBacked : Type 0
SentIsBacked =
    (own : ℕ → Command → Bool) (place : Place) (world : World) (s : Standing) (called : Call) (turn : Turn) (last : Node)
    → Stands own place world s → Comes place world.ever called → IsTurn place s called (Ok turn) → IsOf own place turn.after last
    → (message : Message) → IsSaid place.node turn.frames message → IsBacked last message

-- and what was backed before a call is backed after it, however it ended
abbrev pub BackedStaysSo : Type 0
BackedStaysSo =
    (own : ℕ → Command → Bool) (place : Place) (world : World) (s : Standing) (called : Call) (after : Standing) (frames : List Frame) (shown : List Piece) (last : Node)
    → Stands own place world s → Comes place world.ever called → Ends place s called after frames shown → IsOf own place after last
    → (message : Message) → IsBacked (world.nodes place.node) message → IsBacked last message
