use Rattle.node_service.proofs.Keeping.{kept_on}
use Rattle.node_service.proofs.server.NodeServer.note_fault.Goals as goal

pub returns-then-not-closes : goal.returns-then-not-closes
returns-then-not-closes g c = c.tell.ensures

pub returns : goal.returns
returns g c = kept_on g.W.Wire c.tell.ensures c.hang_up.ensures.kept
