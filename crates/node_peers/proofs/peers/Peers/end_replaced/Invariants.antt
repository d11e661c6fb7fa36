use Rattle.std.proofs.Common.{ℕ, ◌<◌}
use Rattle.node_peers.specs.Peering.{own_of, Grew}
use Rattle.node_peers.specs.Replacing.{IsClosed}
use Rattle.node_peers.proofs.peers.Peers.end_replaced.Given as goal

abbrev pub invariant-loop-number : goal.invariant-loop-number
invariant-loop-number g l = record {
  grew : Grew l.initial.self l.self (g.W.Wire.passed l.initial.wire) (g.W.Wire.passed l.wire);
  closed : (number : ℕ) → number < l.number → IsClosed (own_of l.self) l.self.peers.items number;
}
