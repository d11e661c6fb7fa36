use Rattle.clockwork.proofs.Turning.{one_counts_for_nothing, late_ones_count}
use Rattle.clockwork.proofs.laws.one_late_turn_counts_for_nothing.Goals as goal

pub returns-clause-nothing : goal.returns-clause-nothing
returns-clause-nothing c = one_counts_for_nothing c.args._earlier.now c.args._late

pub returns-clause-counted : goal.returns-clause-counted
returns-clause-counted c = late_ones_count c.args._turn c.args._earlier.now c.args._late
