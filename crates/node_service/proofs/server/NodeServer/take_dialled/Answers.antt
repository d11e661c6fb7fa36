use Rattle.node_service.proofs.Keeping.{kept_on}
use Rattle.node_service.proofs.server.NodeServer.take_dialled.Goals as goal

pub loop-preserved : goal.loop-preserved
loop-preserved g c = kept_on g.W.Wire c.loop.invariant (kept_on g.W.Wire c.take_caller.ensures c.now-now.ensures.kept)

pub returns-then-not-take_caller : goal.returns-then-not-take_caller
returns-then-not-take_caller g c = kept_on g.W.Wire c.loop.invariant c.take_caller.ensures

pub returns-then-saturating_sub-ge-CALLERS : goal.returns-then-saturating_sub-ge-CALLERS
returns-then-saturating_sub-ge-CALLERS g c = kept_on g.W.Wire c.loop.invariant (kept_on g.W.Wire c.take_caller.ensures c.now-now.ensures.kept)
