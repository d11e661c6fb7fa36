use Rattle.std.proofs.Common.{rules}
use Rattle.slot_log.proofs.table.Table.act.Goals as goal

pub returns-then-running-clause-hands : goal.returns-then-running-clause-hands
returns-then-running-clause-hands c = search rules

pub returns-then-over-clause-effect : goal.returns-then-over-clause-effect
returns-then-over-clause-effect c = search rules
