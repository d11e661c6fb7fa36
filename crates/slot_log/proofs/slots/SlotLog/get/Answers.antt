use Rattle.std.proofs.Common.{rules}
use Rattle.slot_log.proofs.slots.SlotLog.get.Goals as goal

pub returns-else-slot-front : goal.returns-else-slot-front
returns-else-slot-front c = search rules
