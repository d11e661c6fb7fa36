use Rattle.std.proofs.Common.{refl}
use Rattle.node_service.specs.Desks.{IsKept}
use Rattle.node_service.proofs.Keeping.{kept_on, as_it_was}
use Rattle.node_service.proofs.server.NodeServer.note_faults.Goals as goal

pub returns-then-not-was_called : goal.returns-then-not-was_called
returns-then-not-was_called g c =
    let desk = c.args.self.now.desk in
    let kept : IsKept g.W.Wire desk desk = as_it_was g.W.Wire refl in
    kept

pub loop-number-init : goal.loop-number-init
loop-number-init g c =
    let desk = c.args.self.now.desk in
    let kept : IsKept g.W.Wire desk desk = as_it_was g.W.Wire refl in
    kept

pub returns-then-not-note_fault : goal.returns-then-not-note_fault
returns-then-not-note_fault g c = kept_on g.W.Wire c.loop-number.invariant c.note_fault.ensures

pub loop-number-preserved : goal.loop-number-preserved
loop-number-preserved g c = kept_on g.W.Wire c.loop-number.invariant c.note_fault.ensures
