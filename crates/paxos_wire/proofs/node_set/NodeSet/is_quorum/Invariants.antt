use Rattle.std.proofs.Common.{◌≡◌, ◌≤◌}
use Rattle.paxos_wire.specs.NodeSets.{count, has}
use Rattle.paxos_wire.proofs.node_set.NodeSet.is_quorum.Given as goal

abbrev pub invariant-loop-node : goal.invariant-loop-node
invariant-loop-node l = record { value : l.counted ≡ count (has l.self) l.node; most : l.counted ≤ l.node }
