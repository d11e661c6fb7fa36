use Rattle.slot_log.proofs.Slotted.{slots_end}
use Rattle.slot_log.proofs.laws.slots_end.Goals as goal

pub returns : goal.returns
returns c = slots_end
