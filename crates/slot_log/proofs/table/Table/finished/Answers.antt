use Rattle.std.proofs.Common.{arith, true, false}
use Rattle.slot_log.proofs.Inside.{finished_none, finished_some}
use Rattle.slot_log.proofs.table.Table.finished.Goals as goal

pub returns-in-Some-clause-value : goal.returns-in-Some-clause-value
returns-in-Some-clause-value c =
    let count = finished_some c.self.inside c.args.self.now c.in-Some.hand c.finished.result true c.self.view_is c.self.invariant c.in-Some.is c.finished.ensures c.if-finished.true in
    omega (arith, count)

pub returns-in_default-clause-value : goal.returns-in_default-clause-value
returns-in_default-clause-value c =
    let count = finished_some c.self.inside c.args.self.now c.in-Some.hand c.finished.result false c.self.view_is c.self.invariant c.in-Some.is c.finished.ensures c.if-finished.false in
    omega (arith, count)

pub returns-in_default-2-clause-value : goal.returns-in_default-2-clause-value
returns-in_default-2-clause-value c =
    let count = finished_none c.self.inside c.args.self.now c.self.view_is c.self.invariant c.in_default.is in
    omega (arith, count)
