use Rattle.std.proofs.Common.{refl}
use Rattle.node_service.specs.Desks.{IsKept}
use Rattle.node_service.proofs.Keeping.{kept_on, as_it_was}
use Rattle.node_service.proofs.server.NodeServer.answer_replaced.Goals as goal

pub returns-then-is_replaced : goal.returns-then-is_replaced
returns-then-is_replaced g c = kept_on g.W.Wire c.now-now.ensures.kept c.speak.ensures

pub returns-else-is_replaced : goal.returns-else-is_replaced
returns-else-is_replaced g c =
    let desk = c.args.self.now.desk in
    let kept : IsKept g.W.Wire desk desk = as_it_was g.W.Wire refl in
    kept
