use Rattle.node_service.specs.Timing.{KeepsRest}
use Rattle.node_service.proofs.Timing.{LooksBelow}
use Rattle.node_service.proofs.server.NodeServer.look_at_each.Given as goal

abbrev pub invariant-loop-seat : goal.invariant-loop-seat
invariant-loop-seat g l = record { same : KeepsRest l.initial.self l.self; looks : LooksBelow l.seat l.seen l.initial.self l.self.seat_watches }
