use Rattle.node_service.proofs.Keeping.{kept_on, as_it_was}
use Rattle.node_service.proofs.server.NodeServer.note_sleep.Goals as goal

pub returns-clause-kept : goal.returns-clause-kept
returns-clause-kept g c = kept_on g.W.Wire c.now-now.ensures.kept (as_it_was g.W.Wire c.mark.ensures.kept)
