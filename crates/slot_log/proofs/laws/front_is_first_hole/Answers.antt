use Rattle.slot_log.proofs.Slotted.{front_is_first_hole}
use Rattle.slot_log.proofs.laws.front_is_first_hole.Goals as goal

pub returns : goal.returns
returns c = front_is_first_hole
