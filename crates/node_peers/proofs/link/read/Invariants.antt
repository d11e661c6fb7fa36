use Rattle.std.proofs.Common.{Some}
use Rattle.node_peers.specs.Adding.{Grows}
use Rattle.node_peers.specs.Hearing.{Moves}
use Rattle.node_peers.proofs.link.read.Given as goal

abbrev pub invariant-loop : goal.invariant-loop
invariant-loop g l = record {
  grows : Grows l.initial.passed l.passed (g.W.Wire.passed l.initial.wire) (g.W.Wire.passed l.wire);
  moves : Moves l.place (Some l.initial.link) (Some l.link) l.initial.passed.items l.passed.items;
}
