use Rattle.node_service.proofs.Keeping.{kept_on}
use Rattle.node_service.proofs.server.NodeServer.note_callers.Goals as goal

pub loop-seat-preserved : goal.loop-seat-preserved
loop-seat-preserved g c = kept_on g.W.Wire c.loop-seat.invariant (kept_on g.W.Wire c.note_wrong_token.ensures c.note_turned_away.ensures)
