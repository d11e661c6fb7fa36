use Rattle.node_service.proofs.Keeping.{kept_on, as_it_was}
use Rattle.node_service.proofs.server.NodeServer.hear_peers.Goals as goal

pub returns : goal.returns
returns g c = kept_on g.W.Wire c.hear.ensures (kept_on g.W.Wire c.now-begun.ensures.kept (kept_on g.W.Wire c.take_dialled-now.ensures (as_it_was g.W.Wire c.note_busy.ensures.kept)))
