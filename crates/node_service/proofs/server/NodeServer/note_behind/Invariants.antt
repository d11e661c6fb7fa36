use Rattle.node_service.specs.Desks.{IsKept}
use Rattle.node_service.proofs.server.NodeServer.note_behind.Given as goal

abbrev pub invariant-loop-number : goal.invariant-loop-number
invariant-loop-number g l = IsKept g.W.Wire l.initial.self.desk l.self.desk
