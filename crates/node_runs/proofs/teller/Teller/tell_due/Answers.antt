use Rattle.std.proofs.Common.{refl, ◌∙◌, arith}
use Rattle.stations.specs.Looking.{look_of}
use Rattle.node_runs.proofs.Telling.{nothing_later, one_later, none_later, full_later}
use Rattle.node_runs.proofs.teller.Teller.tell_due.Goals as goal

pub loop-line-init : goal.loop-line-init
loop-line-init g c = (nothing_later (look_of c.args.station.now) c.args.self.now.port _ c.args.self.now.waiting c.pass.new.self _ c.pass.ensures.holds, c.pass.ensures.clock, refl)

pub loop-line-preserved : goal.loop-line-preserved
loop-line-preserved g c = (
  one_later (look_of c.args.station.now) c.args.self.now.port _ c.loop-line._line c.loop-line.self.port c.args.self.now.waiting c.loop-line.self.waiting c.due.new.self c.in-Some.one _ _ _ c.loop-line.invariant.2
      c.loop-line.invariant.0 c.in-Some.ensures.some (c.in-Some.ensures.time ∙ (c.due.ensures.clock ∙ c.loop-line.invariant.1)) c.tell_group.ensures,
  c.due.ensures.clock ∙ c.loop-line.invariant.1,
  c.loop-line.invariant.2,
)

pub returns-in_default-clause-later : goal.returns-in_default-clause-later
returns-in_default-clause-later g c =
    none_later (look_of c.args.station.now) c.args.self.now.port _ c.loop-line._line c.args.self.now.waiting c.loop-line.self.waiting c.due.new.self _ _ c.loop-line.invariant.0 (c.in_default.ensures.same refl)
    (c.in_default.ensures.none refl) (c.due.ensures.clock ∙ c.loop-line.invariant.1)

pub returns-in_default-clause-clock : goal.returns-in_default-clause-clock
returns-in_default-clause-clock g c = c.due.ensures.clock ∙ c.loop-line.invariant.1

pub returns-clause-later : goal.returns-clause-later
returns-clause-later g c =
    let past = c.loop-line-test.false in
    full_later (look_of c.args.station.now) c.args.self.now.port _ c.loop-line._line c.args.self.now.waiting c.loop-line.self.waiting _ _ c.loop-line.invariant.0 (omega (arith, past))
