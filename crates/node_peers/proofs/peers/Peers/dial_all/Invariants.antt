use Rattle.node_peers.specs.Peering.{Grew}
use Rattle.node_peers.proofs.peers.Peers.dial_all.Given as goal

abbrev pub invariant-loop-number : goal.invariant-loop-number
invariant-loop-number g l = Grew l.initial.self l.self (g.W.Wire.passed l.initial.wire) (g.W.Wire.passed l.wire)
