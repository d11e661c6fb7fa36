use Rattle.std.proofs.Common.{◌≡◌, ap, sym, ◌∙◌, subst}
use Rattle.node_service.specs.declared.desk.Desk.{Desk}
use Rattle.node_service.specs.declared.local_node.LocalNode.{LocalNode}
use Rattle.node_service.specs.Called.{Calls}
use Rattle.node_service.specs.Calling.{MayBeGiven}
use Rattle.node_service.proofs.Knowing.{may_be_given}
use Rattle.node_service.proofs.Keeping.{kept_on, kept_then, as_it_was}
use Rattle.node_service.proofs.server.NodeServer.step.Goals as goal

pub returns-clause-goes : goal.returns-clause-goes
returns-clause-goes g c = kept_then g.W.Wire (kept_on g.W.Wire (as_it_was g.W.Wire c.note_given.ensures.kept) c.now-before.ensures.kept) c.step.ensures.goes

pub step-requires : goal.step-requires
step-requires g c =
    let same : c.now-before.new.self.member ≡ c.args.self.now.desk.member = c.now-before.ensures.kept.member ∙ ap (λ (d : Desk _ _ g.D.Disk). d.member) c.note_given.ensures.kept in
    subst (λ (m : LocalNode _ g.D.Disk). MayBeGiven m.is_started c.args.event.now) (sym same) (may_be_given c.args.self.now c.args.event.now c.requires)

pub returns-clause-calls : goal.returns-clause-calls
returns-clause-calls g c =
    let same : c.now-before.new.self.member ≡ c.args.self.now.desk.member = c.now-before.ensures.kept.member ∙ ap (λ (d : Desk _ _ g.D.Disk). d.member) c.note_given.ensures.kept in
    subst (λ (m : LocalNode _ g.D.Disk). Calls c.args.event.now c.step.result m c.step.new.self.member) same c.step.ensures.calls
