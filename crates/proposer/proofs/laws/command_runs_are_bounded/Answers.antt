use Rattle.proposer.proofs.Bounds.{bound_is_least, bound_is_most, bounded_now, bounded_later}
use Rattle.proposer.proofs.laws.command_runs_are_bounded.Goals as goal

pub returns-clause-least : goal.returns-clause-least
returns-clause-least c = bound_is_least

pub returns-clause-most : goal.returns-clause-most
returns-clause-most c = bound_is_most

pub returns-clause-now : goal.returns-clause-now
returns-clause-now c = bounded_now

pub returns-clause-later : goal.returns-clause-later
returns-clause-later c = bounded_later
