use Rattle.std.proofs.Common.{rules}
use Rattle.slot_log.proofs.table.Table.apply_reserved.Goals as goal

pub returns-clause-effect : goal.returns-clause-effect
returns-clause-effect c = search rules
