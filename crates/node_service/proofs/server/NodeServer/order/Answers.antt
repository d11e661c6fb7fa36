use Rattle.node_service.proofs.Keeping.{then_kept}
use Rattle.node_service.proofs.server.NodeServer.order.Goals as goal

pub returns-then-is_another : goal.returns-then-is_another
returns-then-is_another g c = then_kept g.W.Wire c.call.ensures.goes c.tell.ensures
