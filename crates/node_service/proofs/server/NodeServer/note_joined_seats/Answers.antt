use Rattle.node_service.proofs.Keeping.{kept_on}
use Rattle.node_service.proofs.server.NodeServer.note_joined_seats.Goals as goal

pub loop-seat-preserved : goal.loop-seat-preserved
loop-seat-preserved g c = kept_on g.W.Wire c.loop-seat.invariant c.note_joined_seat.ensures
