use Rattle.std.proofs.Common.{rules}
use Rattle.slot_log.proofs.table.Table.deal.Goals as goal

pub returns-clause-value : goal.returns-clause-value
returns-clause-value c = search rules
