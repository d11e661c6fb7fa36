use Rattle.std.proofs.Common.{rules}
use Rattle.slot_log.proofs.slot_fault.SlotFault.code.Goals as goal

pub returns-in-Conflict : goal.returns-in-Conflict
returns-in-Conflict c = search rules

pub returns-in-SlotsSpent : goal.returns-in-SlotsSpent
returns-in-SlotsSpent c = search rules
