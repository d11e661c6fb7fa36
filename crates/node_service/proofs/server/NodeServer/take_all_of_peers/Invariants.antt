use Rattle.node_service.specs.Going.{GoesOnWith}
use Rattle.node_service.specs.Serving.{served_of}
use Rattle.node_service.specs.Turns.{AreFrames}
use Rattle.node_service.proofs.server.NodeServer.take_all_of_peers.Given as goal

abbrev pub invariant-loop-taken : goal.invariant-loop-taken
invariant-loop-taken g l = GoesOnWith g.D.Disk AreFrames (served_of l.initial.self) (served_of l.self)
