use Rattle.node_service.specs.Going.{Does}
use Rattle.std.proofs.Common.{[]}
use Rattle.node_service.specs.Serving.{served_of}
use Rattle.node_service.proofs.server.NodeServer.leave_all.Given as goal

abbrev pub invariant-loop : goal.invariant-loop
invariant-loop g l = Does g.D.Disk [] (served_of l.initial.self) (served_of l.self)
