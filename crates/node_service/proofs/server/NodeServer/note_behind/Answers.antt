use Rattle.node_service.proofs.Keeping.{kept_on}
use Rattle.node_service.proofs.server.NodeServer.note_behind.Goals as goal

pub loop-number-preserved : goal.loop-number-preserved
loop-number-preserved g c = kept_on g.W.Wire c.loop-number.invariant c.note_behind_at-is_told.ensures
