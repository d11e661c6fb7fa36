-- Frames, and to whom they go.
use Rattle.std.specs.Prelude.{ℕ, zero, suc, ◌==◌, if◌then◌else◌, List, [], ◌∷◌, ◌++◌}
use Rattle.paxos_wire.specs.declared.message.Message.{Message}
use Rattle.node_rules.specs.Standings.{Place}

-- a message for another node
pub record Frame : Type 0 where
  pub to : ℕ
  pub message : Message

-- one frame
abbrev pub one : ℕ → Message → List Frame
one to message = (record { to = to; message = message }) ∷ []

-- one to each of the first nodes but this one, in order of their numbers
unfoldable pub to_first : ℕ → ℕ → Message → List Frame
to_first zero node message = []
to_first (suc other) node message = to_first other node message ++ (if other == node then [] else one other message)

-- one to each other node
abbrev pub to_others : Place → Message → List Frame
to_others place message = to_first place.nodes place.node message
