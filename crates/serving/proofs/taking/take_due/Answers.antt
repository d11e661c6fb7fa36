use Rattle.std.proofs.Common.{refl, rules}
use Rattle.dealer_world.specs.Viewing.{view_of}
use Rattle.serving.specs.Turning.{MayFail}
use Rattle.serving.specs.declared.due.Due.TheVariants.{Stop, Start, Drop, Away, Tick}
use Rattle.serving.proofs.Outside.{fails_outside, may_fail}
use Rattle.serving.proofs.taking.take_due.Goals as goal

pub returns-in-Stop-clause-fault : goal.returns-in-Stop-clause-fault
returns-in-Stop-clause-fault g c =
    let what = Stop c.in-Stop.node in
    rw c.in-Stop.is (fails_outside (view_of c.args.cluster.now).config what c.checked.result (c.checked.ensures.fault what refl))

pub returns-in_err-start-in-Start-clause-fault : goal.returns-in_err-start-in-Start-clause-fault
returns-in_err-start-in-Start-clause-fault g c =
    let what = Start c.in-Start.node in
    let plan = (view_of c.args.cluster.now).config in
    let fails : MayFail plan what c.in_err-start-in-Start.field-0.0 = may_fail plan what _ (c.in_err-start-in-Start.ensures.fault what refl) in
    rw c.in-Start.is (search rules)

pub returns-in-Drop-clause-fault : goal.returns-in-Drop-clause-fault
returns-in-Drop-clause-fault g c =
    let what = Drop c.in-Drop.seat c.in-Drop.node in
    rw c.in-Drop.is (fails_outside (view_of c.args.cluster.now).config what c.checked-in-Drop.result (c.checked-in-Drop.ensures.fault what (refl, refl)))

pub returns-in-Away-clause-fault : goal.returns-in-Away-clause-fault
returns-in-Away-clause-fault g c =
    let what = Away c.in-Away.seat c.in-Away.node in
    rw c.in-Away.is (fails_outside (view_of c.args.cluster.now).config what c.checked-in-Away.result (c.checked-in-Away.ensures.fault what (refl, refl)))

pub returns-in-Tick-clause-fault : goal.returns-in-Tick-clause-fault
returns-in-Tick-clause-fault g c =
    let what = Tick c.in-Tick.node in
    rw c.in-Tick.is (fails_outside (view_of c.args.cluster.now).config what c.checked-in-Tick.result (c.checked-in-Tick.ensures.fault what refl))
