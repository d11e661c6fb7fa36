use Rattle.node_status.specs.Asking.{Accepts}
use Rattle.node_status.proofs.askers.Askers.take_in_all.Given as goal

abbrev pub invariant-loop : goal.invariant-loop
invariant-loop g l = Accepts l.now l.counter l.initial.self.askers.items l.self.askers.items (g.W.Wire.passed l.initial.wire) (g.W.Wire.passed l.wire)
