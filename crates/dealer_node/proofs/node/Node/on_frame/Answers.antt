use Rattle.std.proofs.Common.{refl, subst}
use Rattle.std.specs.Prelude.{Some}
use Rattle.node_rules.specs.Calls.{Frame}
use Rattle.dealer_node.specs.Outs.{Told, told_by}
use Rattle.dealer_node.specs.Taking.{Takes}
use Rattle.dealer_node.proofs.Settled.{seen_at, refuses_at}
use Rattle.dealer_node.proofs.Handled.{handled, settled_at, handled_reads, reads_at}
use Rattle.dealer_node.specs.Most.{applied_by, most_shown_by}
use Rattle.dealer_node.proofs.Most.{none_shown, shows_at}
use Rattle.dealer_node.proofs.node.Node.on_frame.Goals as goal

pub returns-in-None-clause-taken : goal.returns-in-None-clause-taken
returns-in-None-clause-taken g c s honest seen =
    refuses_at g.D.Disk c.args.self.now c.self.inside c.self.inside s (Frame c.args.from c.args.bytes.now) c.args.out.now _ c.self.view_is c.in-None.is refl refl (λ place. refl) seen

pub returns-in-Some-clause-taken : goal.returns-in-Some-clause-taken
returns-in-Some-clause-taken g c s honest seen =
    let d = g.D.Disk in
    let call = c.on_frame-answer in
    let before : Told = told_by c.out.inside.made in
    let there = seen_at d c.args.self.now c.self.inside (Some c.in-Some.up) s c.self.view_is c.in-Some.is seen in
    let t = handled d c.self.inside.member c.self.inside.blank c.self.inside.disk c.in-Some.up call.new.self s (Frame c.args.from c.args.bytes.now) before (told_by call.new.out) call.result there call.ensures.unmade (λ o done. done) (call.ensures.handles s honest there.by) in
    subst (λ (told : Told). Takes d (Frame c.args.from c.args.bytes.now) s c.args.self.now c.go_down_after.new.self told (told_by call.new.out) c.go_down_after.result) c.out.view_is
    (settled_at d c.args.self.now c.self.inside c.in-Some.up c.go_down_after.new.self _ s (Frame c.args.from c.args.bytes.now) before (told_by call.new.out) c.go_down_after.result call.result c.self.view_is c.in-Some.is c.go_down_after.ensures.node c.go_down_after.ensures.same t)

pub returns-in-Some-clause-untouched : goal.returns-in-Some-clause-untouched
returns-in-Some-clause-untouched g c s honest seen =
    let d = g.D.Disk in
    let call = c.on_frame-answer in
    let there = seen_at d c.args.self.now c.self.inside (Some c.in-Some.up) s c.self.view_is c.in-Some.is seen in
    reads_at d c.args.self.now c.self.inside c.in-Some.up c.go_down_after.new.self _ s (Frame c.args.from c.args.bytes.now) c.go_down_after.result call.result c.self.view_is c.in-Some.is c.go_down_after.ensures.node c.go_down_after.ensures.same
    (handled_reads d c.self.inside.member c.self.inside.blank c.self.inside.disk c.in-Some.up call.new.self s (Frame c.args.from c.args.bytes.now) (told_by c.out.inside.made) (told_by call.new.out) call.result there (call.ensures.handles s honest there.by))

pub returns-in-None-clause-shows : goal.returns-in-None-clause-shows
returns-in-None-clause-shows g c = none_shown (most_shown_by c.args.self.now c.args.bytes.now) c.args.out.now _ refl

pub returns-in-Some-clause-shows : goal.returns-in-Some-clause-shows
returns-in-Some-clause-shows g c =
    shows_at c.args.self.now c.self.inside c.in-Some.up (λ u. applied_by u c.args.bytes.now) (told_by c.out.inside.made) c.args.out.now (told_by c.on_frame-answer.new.out) c.self.view_is c.in-Some.is c.out.view_is c.on_frame-answer.ensures.shows
