use Rattle.node_service.proofs.Keeping.{kept_on}
use Rattle.node_service.proofs.server.NodeServer.look_at_lines.Goals as goal

pub loop-seat-preserved : goal.loop-seat-preserved
loop-seat-preserved g c = kept_on g.W.Wire c.loop-seat.invariant (kept_on g.W.Wire c.look_at_line.ensures.kept (kept_on g.W.Wire c.leave_parted.ensures.kept c.leave_late.ensures))
