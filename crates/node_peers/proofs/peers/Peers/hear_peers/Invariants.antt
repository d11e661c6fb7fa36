use Rattle.node_peers.specs.Peering.{Grew}
use Rattle.node_peers.proofs.peers.Peers.hear_peers.Given as goal

abbrev pub invariant-loop-place : goal.invariant-loop-place
invariant-loop-place g l = Grew l.initial.self l.self (g.W.Wire.passed l.initial.wire) (g.W.Wire.passed l.wire)
