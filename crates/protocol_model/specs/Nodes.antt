-- One node of the world.
use Rattle.std.specs.Prelude.{ℕ, Bool, false, List, [], ◌∷◌, length, Option, None}
use Rattle.slot_log.specs.declared.command.Command.{Command}
use Rattle.protocol_model.specs.Sets.{In}
use Rattle.protocol_model.specs.Messages.{Message}
use Rattle.protocol_model.specs.Stores.{Store, empty_store}

-- what a node keeps on its disk, what it has got, sent and learned since its start, and what its seats said
pub record Node : Type 0 where
  pub store : Store
  -- what the next start finds if the append that was begun at the stop went through; while the node is up, its store
  pub begun : Store
  pub up : Bool
  -- how often it was started
  pub starts : ℕ
  -- since its start: what it got, what it sent, the commands that it knows as chosen with their slots
  pub has : List Message
  pub sent : List Message
  pub known : List (ℕ × Command)
  -- since its start: of how many commands it showed the effect last
  pub shown : ℕ
  -- the bytes of each seat since it connected, oldest first; none of a seat that isn't connected
  pub heard : ℕ → Option (List ℕ)

-- the node knows each command of the list, newest first, as chosen at its slot
abbrev pub Knows : List (ℕ × Command) → List Command → Type 0
Knows known [] = Unit {0}
Knows known (command ∷ before) = In (length before, command) known × Knows known before

-- a node that was never started
abbrev pub new_node : Node
new_node = record {
  store = empty_store;
  begun = empty_store;
  up = false;
  starts = 0;
  has = [];
  sent = [];
  known = [];
  shown = 0;
  heard = λ seat. None;
}
