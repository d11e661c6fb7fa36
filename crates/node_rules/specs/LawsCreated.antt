-- A node whose store was just made.
use Rattle.std.specs.Prelude.{ℕ, Bool}
use Rattle.slot_log.specs.declared.command.Command.{Command}
use Rattle.protocol_model.specs.Stores.{empty_store}
use Rattle.protocol_model.specs.Nodes.{new_node}
use Rattle.node_rules.specs.Standings.{Place, stopped}
use Rattle.node_rules.specs.Being.{IsOf}

-- it is down, with a store that holds nothing, and is a node of the world that was never started
abbrev pub CreatedIsNew : Type 0
CreatedIsNew = (own : ℕ → Command → Bool) (place : Place) → IsOf own place (stopped place empty_store empty_store) new_node
