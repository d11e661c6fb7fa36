use Rattle.node_service.specs.Going.{GoesOnWith}
use Rattle.node_service.specs.Serving.{served_of}
use Rattle.node_service.specs.Turns.{AreCallersBut}
use Rattle.node_service.proofs.server.NodeServer.take_round.Given as goal

abbrev pub invariant-loop-seat : goal.invariant-loop-seat
invariant-loop-seat g l = GoesOnWith g.D.Disk (AreCallersBut l.initial.closed l.initial.taken l.taken) (served_of l.initial.self) (served_of l.self)
