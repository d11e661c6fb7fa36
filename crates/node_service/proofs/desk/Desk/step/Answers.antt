use Rattle.std.proofs.Common.{◌≡◌, inl, refl, Bool, ap, ◌∙◌, sym, subst}
use Rattle.std.specs.Prelude.{IfSome}
use Rattle.stations.specs.Looking.{look_of}
use Rattle.stations.specs.Stations.{Acts}
use Rattle.dealer_node.specs.Seeing.{runs}
use Rattle.node_service.specs.declared.local_node.LocalNode.{LocalNode}
use Rattle.node_service.specs.declared.sitting.Sittings.{Sittings}
use Rattle.node_service.specs.Desks.{served_by}
use Rattle.node_service.specs.Sittings.{Admits, IsGivenBy, Settles}
use Rattle.node_wires.specs.Passages.{calls_in}
use Rattle.node_service.specs.Handing.{HandsOn}
use Rattle.node_service.proofs.Keeping.{refused, then_kept, hands_kept, settled, of_called, unstepped_then}
use Rattle.node_service.specs.Called.{Calls}
use Rattle.node_service.specs.Calling.{called_if}
use Rattle.node_service.proofs.Called.{started_stays, did_by}
use Rattle.node_service.proofs.Stepping.{stepped_if_given}
use Rattle.node_service.proofs.desk.Desk.step.Goals as goal

pub returns-then-not-admits-clause-goes : goal.returns-then-not-admits-clause-goes
returns-then-not-admits-clause-goes g c = refused g.W.Wire c.args.event.now c.refuse.ensures.kept c.refuse.ensures.refuses c.refuse.ensures.free

pub returns-then-not-is_given-clause-goes : goal.returns-then-not-is_given-clause-goes
returns-then-not-is_given-clause-goes g c =
    let old = c.args.self.now in
    let same : c.note_promised.new.self.member ≡ c.step-answer.new.self = c.note_promised.ensures.kept.member ∙ c.hand_on-deaf.ensures.member in
    let e = c.args.event.now in
    unstepped_then g.W.Wire e c.step-answer.new.self.made c.step-answer.result (served_by g.W.Wire old) c.note_promised.new.self c.refuse-then-not-is_given.new.self
    (subst (λ (b : Bool). IsGivenBy b c.step-answer.result) c.if-not-is_given.true c.is_given-is_given.ensures)
    (subst (λ (m : LocalNode _ g.D.Disk). IfSome c.step-answer.result (λ answer. Acts g.D.Disk e c.step-answer.new.self.made answer (look_of old.member.station) (look_of m.station))) (sym same)
    c.step-answer.ensures.acts)
    (λ none. ap (λ (m : LocalNode _ g.D.Disk). look_of m.station) same ∙ ap look_of (c.step-answer.ensures.none none)) c.step-answer.ensures.unmade
    (hands_kept g.W.Wire
    (subst (λ (b : Bool). HandsOn g.D.Disk (calls_in (called_if b)) c.step-answer.new.self.made (served_by g.W.Wire old) (served_by g.W.Wire c.hand_on-deaf.new.self)) c.if-not-is_given.true
    (of_called g.W.Wire c.is_given-is_given.result old c.step-answer.new.self c.put_down.new.wire c.put_down.ensures c.hand_on-deaf.ensures.hands))
    c.note_promised.ensures.kept) (c.note_promised.ensures.sittings ∙ c.hand_on-deaf.ensures.sittings) c.refuse-then-not-is_given.ensures.kept
    c.refuse-then-not-is_given.ensures.refuses c.refuse-then-not-is_given.ensures.free
    (λ was. ap (λ (m : LocalNode _ g.D.Disk). m.is_started) same ∙ started_stays e c.step-answer.result old.member.is_started c.step-answer.new.self.is_started c.step-answer.ensures.started was)
    (ap (λ (m : LocalNode _ g.D.Disk). m.terms) same ∙ c.step-answer.ensures.terms)

pub returns-clause-goes : goal.returns-clause-goes
returns-clause-goes g c =
    let old = c.args.self.now in
    let same : c.part_from.new.self.member ≡ c.step-answer.new.self = c.part_from.ensures.kept.member ∙ (c.note_promised.ensures.kept.member ∙ c.hand_on-deaf.ensures.member) in
    let e = c.args.event.now in
    then_kept g.W.Wire
    (stepped_if_given e c.step-answer.new.self.made c.step-answer.result (served_by g.W.Wire old) _ (subst (λ (b : Bool). IsGivenBy b c.step-answer.result) c.if-not-is_given.false c.is_given-is_given.ensures)
    (subst (λ (m : LocalNode _ g.D.Disk). IfSome c.step-answer.result (λ answer. Acts g.D.Disk e c.step-answer.new.self.made answer (look_of old.member.station) (look_of m.station))) (sym same)
    c.step-answer.ensures.acts)
    (settled g.W.Wire c.part_from.new.self c.settle.new.self
    (hands_kept g.W.Wire (hands_kept g.W.Wire
    (subst (λ (b : Bool). HandsOn g.D.Disk (calls_in (called_if b)) c.step-answer.new.self.made (served_by g.W.Wire old) (served_by g.W.Wire c.hand_on-deaf.new.self)) c.if-not-is_given.false
    (of_called g.W.Wire c.is_given-is_given.result old c.step-answer.new.self c.put_down.new.wire c.put_down.ensures c.hand_on-deaf.ensures.hands))
    c.note_promised.ensures.kept) c.part_from.ensures.kept))
    (subst (λ (b : Bool). Admits b e old.sittings) (c.running.ensures.value ∙ ap runs c.node.ensures) (c.admits.ensures c.if-not-admits.false))
    (subst (λ (s : Sittings). Settles e s c.settle.new.self) (c.part_from.ensures.sittings ∙ (c.note_promised.ensures.sittings ∙ c.hand_on-deaf.ensures.sittings)) c.settle.ensures) c.requires
    (λ was. ap (λ (m : LocalNode _ g.D.Disk). m.is_started) same ∙ started_stays e c.step-answer.result old.member.is_started c.step-answer.new.self.is_started c.step-answer.ensures.started was)
    (ap (λ (m : LocalNode _ g.D.Disk). m.terms) same ∙ c.step-answer.ensures.terms) c.part_from.ensures.free)
    c.hang_up_all.ensures

pub returns-then-not-admits-clause-calls : goal.returns-then-not-admits-clause-calls
returns-then-not-admits-clause-calls g c =
    subst (λ (m : LocalNode _ g.D.Disk). Calls c.args.event.now _ c.args.self.now.member m) (sym c.refuse.ensures.kept.member)
    (record { did = refl; started = refl; fault = inl refl; needed = λ was. inl was; ends = λ ends. absurd ends.0; terms = refl })

pub returns-then-not-is_given-clause-calls : goal.returns-then-not-is_given-clause-calls
returns-then-not-is_given-clause-calls g c =
    let same : c.refuse-then-not-is_given.new.self.member ≡ c.step-answer.new.self = c.refuse-then-not-is_given.ensures.kept.member ∙ (c.note_promised.ensures.kept.member ∙ c.hand_on-deaf.ensures.member) in
    subst (λ (m : LocalNode _ g.D.Disk). Calls c.args.event.now c.step-answer.result c.args.self.now.member m) (sym same)
    (record {
      did = did_by g.D.Disk c.args.event.now c.step-answer.new.self.made c.step-answer.result (look_of c.args.self.now.member.station) (look_of c.step-answer.new.self.station) c.step-answer.ensures.acts (λ none. ap look_of (c.step-answer.ensures.none none));
      started = c.step-answer.ensures.started;
      fault = c.step-answer.ensures.fault;
      needed = c.step-answer.ensures.needed;
      ends = c.step-answer.ensures.ends;
      terms = c.step-answer.ensures.terms;
    })

pub returns-clause-calls : goal.returns-clause-calls
returns-clause-calls g c =
    let same : c.hang_up_all.new.self.member ≡ c.step-answer.new.self = c.hang_up_all.ensures.member ∙ (c.part_from.ensures.kept.member ∙ (c.note_promised.ensures.kept.member ∙ c.hand_on-deaf.ensures.member)) in
    subst (λ (m : LocalNode _ g.D.Disk). Calls c.args.event.now c.step-answer.result c.args.self.now.member m) (sym same)
    (record {
      did = did_by g.D.Disk c.args.event.now c.step-answer.new.self.made c.step-answer.result (look_of c.args.self.now.member.station) (look_of c.step-answer.new.self.station) c.step-answer.ensures.acts (λ none. ap look_of (c.step-answer.ensures.none none));
      started = c.step-answer.ensures.started;
      fault = c.step-answer.ensures.fault;
      needed = c.step-answer.ensures.needed;
      ends = c.step-answer.ensures.ends;
      terms = c.step-answer.ensures.terms;
    })
