use Rattle.std.proofs.Common.{rules}
use Rattle.slot_log.proofs.slots.SlotLog.put.Goals as goal

pub returns-in-Ok-false-clause-ok : goal.returns-in-Ok-false-clause-ok
returns-in-Ok-false-clause-ok c = search rules

pub returns-in-Ok-false-clause-conflict : goal.returns-in-Ok-false-clause-conflict
returns-in-Ok-false-clause-conflict c = search rules
