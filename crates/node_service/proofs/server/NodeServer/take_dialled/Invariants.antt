use Rattle.node_service.specs.Desks.{IsKept}
use Rattle.node_service.proofs.server.NodeServer.take_dialled.Given as goal

abbrev pub invariant-loop : goal.invariant-loop
invariant-loop g l = IsKept g.W.Wire l.initial.self.desk l.self.desk
