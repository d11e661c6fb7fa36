use Rattle.node_service.specs.Desks.{IsKept}
use Rattle.node_service.proofs.server.NodeServer.note_crowds.Given as goal

abbrev pub invariant-loop-seat : goal.invariant-loop-seat
invariant-loop-seat g l = IsKept g.W.Wire l.initial.self.desk l.self.desk
