use Rattle.std.proofs.Common.{refl}
use Rattle.node_service.specs.Desks.{IsKept}
use Rattle.node_service.proofs.Going.{does_on}
use Rattle.node_service.proofs.Keeping.{goes_kept, as_it_was}
use Rattle.node_service.proofs.server.NodeServer.leave_all.Goals as goal

pub loop-init : goal.loop-init
loop-init g c =
    let desk = c.args.self.now.desk in
    let kept : IsKept g.W.Wire desk desk = as_it_was g.W.Wire refl in
    goes_kept g.W.Wire kept

pub loop-preserved : goal.loop-preserved
loop-preserved g c = does_on c.loop.invariant c.leave.ensures
