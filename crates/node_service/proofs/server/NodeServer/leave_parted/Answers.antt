use Rattle.node_service.proofs.Keeping.{kept_on}
use Rattle.node_service.proofs.server.NodeServer.leave_parted.Goals as goal

pub returns-clause-kept : goal.returns-clause-kept
returns-clause-kept g c = kept_on g.W.Wire c.note_parted.ensures c.hang_up.ensures.kept
