use Rattle.clockwork.proofs.Measures.{count}
use Rattle.clockwork.proofs.laws.what_was_measured_counts_for_a_minute.Goals as goal

pub returns : goal.returns
returns c = count c.args._measures.now c.args._now
