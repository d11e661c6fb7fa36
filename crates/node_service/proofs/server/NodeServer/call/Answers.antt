use Rattle.std.proofs.Common.{sym, subst}
use Rattle.node_service.specs.declared.local_node.LocalNode.{LocalNode}
use Rattle.node_service.specs.Called.{Calls}
use Rattle.node_service.proofs.Keeping.{kept_on, then_kept}
use Rattle.node_service.proofs.server.NodeServer.call.Goals as goal

pub returns-clause-goes : goal.returns-clause-goes
returns-clause-goes g c =
    then_kept g.W.Wire c.step-answer.ensures.goes
    (kept_on g.W.Wire c.now-now.ensures.kept (kept_on g.W.Wire c.note_faults.ensures (kept_on g.W.Wire c.note_seen.ensures c.speak.ensures)))

pub returns-clause-calls : goal.returns-clause-calls
returns-clause-calls g c =
    let kept = kept_on g.W.Wire c.now-now.ensures.kept (kept_on g.W.Wire c.note_faults.ensures (kept_on g.W.Wire c.note_seen.ensures c.speak.ensures)) in
    subst (λ (m : LocalNode _ g.D.Disk). Calls c.args.event.now c.step-answer.result.0 c.args.self.now.desk.member m) (sym kept.member) c.step-answer.ensures.calls
