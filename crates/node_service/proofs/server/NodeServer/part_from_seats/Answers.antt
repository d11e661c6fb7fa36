use Rattle.node_service.proofs.Keeping.{kept_on}
use Rattle.node_service.proofs.server.NodeServer.part_from_seats.Goals as goal

pub loop-seat-preserved : goal.loop-seat-preserved
loop-seat-preserved g c = kept_on g.W.Wire c.loop-seat.invariant c.part_from_seat.ensures
