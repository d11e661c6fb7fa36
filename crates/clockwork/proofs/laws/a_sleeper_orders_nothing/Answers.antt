use Rattle.clockwork.proofs.Awakening.{wakes_exactly_then}
use Rattle.clockwork.proofs.laws.a_sleeper_orders_nothing.Goals as goal

pub returns : goal.returns
returns c = wakes_exactly_then c.args._nodes c.args._happenings.now
