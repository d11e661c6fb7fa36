use Rattle.node_service.specs.Desks.{IsKept}
use Rattle.node_service.proofs.desk.Desk.hang_up_all.Given as goal

abbrev pub invariant-loop-seat : goal.invariant-loop-seat
invariant-loop-seat g l = IsKept g.W.Wire l.initial.self l.self
