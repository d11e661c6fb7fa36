use Rattle.node_peers.specs.Peering.{Stays}
use Rattle.node_peers.proofs.peers.Peers.note_refusals.Given as goal

abbrev pub invariant-loop-number : goal.invariant-loop-number
invariant-loop-number l = Stays l.initial.self l.self
