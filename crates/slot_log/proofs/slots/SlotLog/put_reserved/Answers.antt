use Rattle.std.proofs.Common.{rules}
use Rattle.slot_log.proofs.slots.SlotLog.put_reserved.Goals as goal

pub returns-else-branch-clause-log : goal.returns-else-branch-clause-log
returns-else-branch-clause-log c = search rules
