use Rattle.std.proofs.Common.{rules}
use Rattle.slot_log.proofs.table.Table.deal_reason.Goals as goal

pub returns-then-running : goal.returns-then-running
returns-then-running c = search rules
