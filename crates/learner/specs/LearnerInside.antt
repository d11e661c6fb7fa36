-- What the fields of a learner keep, and what it counted and knows by them.
use Rattle.std.specs.Prelude.{◌≡◌, ◌≤◌, length}
use Rattle.paxos_wire.specs.declared.limits.TheConstants.{NODES, WINDOW}
use Rattle.learner.specs.declared.learner.Learner.TheInside.{Inside}
use Rattle.learner.specs.Learning.{Learning}
use Rattle.learner.specs.Cells.{learned_by, room_in}

abbrev pub learning_of : Inside → Learning
learning_of s = record { learned = learned_by s.nodes s.cells.items s.log.log; answers = room_in s.cells.items; commands = s.log.room }

pub record IsKept (s : Inside) : Type 0 where
  pub few : s.nodes ≤ NODES
  pub cells : length s.cells.items ≡ WINDOW
