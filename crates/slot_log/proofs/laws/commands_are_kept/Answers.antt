use Rattle.slot_log.proofs.Slotted.{commands_are_kept}
use Rattle.slot_log.proofs.laws.commands_are_kept.Goals as goal

pub returns : goal.returns
returns c = commands_are_kept
