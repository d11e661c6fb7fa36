use Rattle.node_service.specs.Desks.{IsKept}
use Rattle.node_service.proofs.desk.Desk.speak.Given as goal

abbrev pub invariant-loop : goal.invariant-loop
invariant-loop g l = IsKept g.W.Wire l.initial.self l.self
