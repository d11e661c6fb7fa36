use Rattle.std.proofs.Common.{rules}
use Rattle.slot_log.proofs.slots.SlotLog.reserve.Goals as goal

pub returns-clause-room : goal.returns-clause-room
returns-clause-room c = search rules
