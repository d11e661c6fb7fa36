use Rattle.node_service.specs.Going.{GoesOnWith}
use Rattle.node_service.specs.Serving.{served_of}
use Rattle.node_service.proofs.Turns.{ComeBelow}
use Rattle.node_service.proofs.server.NodeServer.take_all_of_seats.Given as goal

abbrev pub invariant-loop-at : goal.invariant-loop-at
invariant-loop-at g l = GoesOnWith g.D.Disk (ComeBelow l.at l.shut l.taken) (served_of l.fn.self) (served_of l.self)
