use Rattle.std.proofs.Common.{sym, ◌∙◌}
use Rattle.clockwork.proofs.Fairness.{order_by, able_by, has_been_patient, ordered_long_ago, later_than_now}
use Rattle.clockwork.proofs.order.order_due.Goals as goal

pub returns-clause-able : goal.returns-clause-able
returns-clause-able c = λ is. (able_by c.args.expected.now (order_by c.args.expected.now (sym c.order_due_of.ensures ∙ is)).0).0

pub returns-clause-turn : goal.returns-clause-turn
returns-clause-turn c = λ is. (able_by c.args.expected.now (order_by c.args.expected.now (sym c.order_due_of.ensures ∙ is)).0).1

pub returns-clause-patient : goal.returns-clause-patient
returns-clause-patient c = λ is. has_been_patient c.args.expected.now (order_by c.args.expected.now (sym c.order_due_of.ensures ∙ is)).1

pub returns-clause-spaced : goal.returns-clause-spaced
returns-clause-spaced c = λ is. ordered_long_ago c.args.expected.now (order_by c.args.expected.now (sym c.order_due_of.ensures ∙ is)).1

pub returns-clause-later : goal.returns-clause-later
returns-clause-later c = λ until is. later_than_now c.args.expected.now until (sym c.order_due_of.ensures ∙ is)
