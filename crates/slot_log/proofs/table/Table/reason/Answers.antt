use Rattle.std.proofs.Common.{rules}
use Rattle.slot_log.proofs.table.Table.reason.Goals as goal

pub returns-in-Deal : goal.returns-in-Deal
returns-in-Deal c = search rules

pub returns-in-Act : goal.returns-in-Act
returns-in-Act c = search rules
