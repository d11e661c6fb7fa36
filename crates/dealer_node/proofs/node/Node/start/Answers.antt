use Rattle.std.proofs.Common.{◌≡◌, Ok, refl, ap, sym, ◌∙◌}
use Rattle.dealer_node.specs.Outs.{Told, told_by, both_told}
use Rattle.dealer_node.specs.declared.fault.NodeFault.TheVariants as fault
use Rattle.dealer_node.proofs.Heard.{err_is, err_of}
use Rattle.dealer_node.proofs.Started.{runs_on_at, wanting_at, seen_down, started_at, unstarted_at, refused_at, starts_behind, runs_opens, wanting_opens, started_opens, unstarted_opens, started_finds}
use Rattle.std.proofs.Common.{arith}
use Rattle.dealer_node.specs.Most.{most_shown_of}
use Rattle.dealer_node.proofs.Most.{none_shown, start_shown}
use Rattle.dealer_node.proofs.node.Node.start.Goals as goal

pub returns-then-is_some-clause-taken : goal.returns-then-is_some-clause-taken
returns-then-is_some-clause-taken g c = λ s honest seen.
    runs_on_at g.D.Disk c.args.self.now c.self.inside s c.args.out.now c.self.view_is (sym c.is_some.ensures ∙ c.if-is_some.true) seen

pub returns-in_err-running-clause-taken : goal.returns-in_err-running-clause-taken
returns-in_err-running-clause-taken g c = λ s honest seen.
    wanting_at g.D.Disk c.args.self.now c.self.inside s c.args.out.now (told_by c.ready.new.out) c.from_residual.result c.self.view_is (sym c.is_some.ensures ∙ c.if-is_some.false)
    (c.ready.ensures.same ∙ c.out.view_is) (err_is c.from_residual.result fault.OutOfMemory c.from_residual.ensures.1) seen

pub returns-in-Ok-clause-taken : goal.returns-in-Ok-clause-taken
returns-in-Ok-clause-taken g c = λ s honest seen.
    let down = sym c.is_some.ensures ∙ c.if-is_some.false in
    let has = sym c.take.ensures.value ∙ c.in-Some.is in
    let there = seen_down g.D.Disk c.args.self.now c.self.inside c.in-Some.disk s c.self.view_is down has seen in
    let out : told_by c.ready.new.out ≡ c.args.out.now = c.ready.ensures.same ∙ c.out.view_is in
    started_at g.D.Disk c.args.self.now c.self.inside c.in-Some.disk c.take.new.self c.in-Ok.up s c.args.out.now (told_by c.append_owned.new.self) c.self.view_is down has seen
    (starts_behind g.D.Disk c.self.inside.member s.store s.begun c.in-Some.disk c.in-Ok.up (told_by c.in_ok-running.made) (told_by c.open.new.made) c.args.out.now (told_by c.append_owned.new.self)
    c.in_ok-running.ensures.nothing (c.append_owned.ensures ∙ ap (λ (t : Told). both_told t (told_by c.open.new.made)) out)
    (c.in-Ok.ensures.starts s.store s.begun honest there.by.leaves))

pub returns-in-Err-clause-taken : goal.returns-in-Err-clause-taken
returns-in-Err-clause-taken g c = λ s honest seen.
    let down = sym c.is_some.ensures ∙ c.if-is_some.false in
    let has = sym c.take.ensures.value ∙ c.in-Some.is in
    let there = seen_down g.D.Disk c.args.self.now c.self.inside c.in-Some.disk s c.self.view_is down has seen in
    unstarted_at g.D.Disk c.args.self.now c.self.inside c.in-Some.disk c.in-Err.disk s c.args.out.now (told_by c.ready.new.out) c.in-Err.fault c.self.view_is down has (c.ready.ensures.same ∙ c.out.view_is) seen
    (c.in-Err.ensures.stays s.store s.begun honest there.by.leaves)

pub returns-in-Ok-clause-found : goal.returns-in-Ok-clause-found
returns-in-Ok-clause-found g c = λ honest down.
    started_finds g.D.Disk c.args.self.now c.self.inside c.in-Some.disk c.take.new.self c.in-Ok.up c.self.view_is (sym c.is_some.ensures ∙ c.if-is_some.false)
    (sym c.take.ensures.value ∙ c.in-Some.is) c.self.invariant.blank (c.in-Ok.ensures.stands honest)

pub returns-then-is_some-clause-disk : goal.returns-then-is_some-clause-disk
returns-then-is_some-clause-disk g c = runs_opens g.D.Disk c.args.self.now c.self.inside (Ok tt) c.self.view_is c.self.invariant (sym c.is_some.ensures ∙ c.if-is_some.true)

pub returns-in_err-running-clause-disk : goal.returns-in_err-running-clause-disk
returns-in_err-running-clause-disk g c =
    wanting_opens g.D.Disk c.args.self.now c.self.inside c.from_residual.result c.self.view_is c.self.invariant (err_is c.from_residual.result fault.OutOfMemory c.from_residual.ensures.1)

pub returns-in-Ok-clause-disk : goal.returns-in-Ok-clause-disk
returns-in-Ok-clause-disk g c =
    started_opens g.D.Disk c.args.self.now c.self.inside c.in-Some.disk c.take.new.self c.in-Ok.up c.self.view_is (sym c.is_some.ensures ∙ c.if-is_some.false)
    (sym c.take.ensures.value ∙ c.in-Some.is) c.in-Ok.ensures.reopens c.in-Ok.ensures.marks.marks c.in-Ok.ensures.marks.quiet

pub returns-in-Err-clause-disk : goal.returns-in-Err-clause-disk
returns-in-Err-clause-disk g c =
    unstarted_opens g.D.Disk c.args.self.now c.self.inside c.in-Some.disk c.in-Err.disk c.in-Err.fault c.self.view_is (sym c.is_some.ensures ∙ c.if-is_some.false)
    (sym c.take.ensures.value ∙ c.in-Some.is) c.in-Err.ensures.reopens_err c.in-Err.ensures.refuses.quiet c.in-Err.ensures.refuses.unwritten

pub returns-in-Err-clause-refused : goal.returns-in-Err-clause-refused
returns-in-Err-clause-refused g c = λ honest why is.
    refused_at g.D.Disk c.args.self.now c.self.inside c.in-Some.disk why c.self.view_is (sym c.is_some.ensures ∙ c.if-is_some.false) (sym c.take.ensures.value ∙ c.in-Some.is)
    (c.in-Err.ensures.refuses.finds honest why (err_of c.in-Err.fault (fault.Store why) is))

pub returns-then-is_some-clause-shows : goal.returns-then-is_some-clause-shows
returns-then-is_some-clause-shows g c = none_shown (most_shown_of c.args.self.now) c.args.out.now c.args.out.now refl

pub returns-in_err-running-clause-shows : goal.returns-in_err-running-clause-shows
returns-in_err-running-clause-shows g c = none_shown (most_shown_of c.args.self.now) c.args.out.now (told_by c.ready.new.out) (c.ready.ensures.same ∙ c.out.view_is)

pub returns-in-Err-clause-shows : goal.returns-in-Err-clause-shows
returns-in-Err-clause-shows g c = none_shown (most_shown_of c.args.self.now) c.args.out.now (told_by c.ready.new.out) (c.ready.ensures.same ∙ c.out.view_is)

-- the header of the log alone
pub returns-in-Ok-clause-shows : goal.returns-in-Ok-clause-shows
returns-in-Ok-clause-shows g c =
    start_shown (most_shown_of c.args.self.now) c.in_ok-running.made c.open.new.made c.args.out.now (told_by c.ready.new.out) (told_by c.append_owned.new.self) c.in_ok-running.ensures.nothing
    c.append_owned.ensures (c.ready.ensures.same ∙ c.out.view_is) c.in-Ok.ensures.texts c.in-Ok.ensures.text_bytes (omega arith) (omega arith)

pub returns-in-Err-clause-faults : goal.returns-in-Err-clause-faults
returns-in-Err-clause-faults g c = c.in-Err.ensures.refuses.of_start
