use Rattle.slot_log.proofs.Played.{hands_come_of_commands}
use Rattle.slot_log.proofs.laws.hands_come_of_commands.Goals as goal

pub returns : goal.returns
returns c = hands_come_of_commands c.allowed_without_fault.ensures
