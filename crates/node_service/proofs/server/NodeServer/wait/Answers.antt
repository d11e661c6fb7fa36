use Rattle.node_service.proofs.Keeping.{kept_on, as_it_was}
use Rattle.node_service.proofs.server.NodeServer.wait.Goals as goal

pub returns-clause-kept : goal.returns-clause-kept
returns-clause-kept g c = kept_on g.W.Wire c.wait.ensures.kept (kept_on g.W.Wire c.now-now.ensures.kept (kept_on g.W.Wire c.forgive.ensures (as_it_was g.W.Wire c.mark.ensures.kept)))
