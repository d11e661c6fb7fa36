use Rattle.slot_log.proofs.Ranges.{commands_make_hands}
use Rattle.slot_log.proofs.laws.commands_make_hands.Goals as goal

pub returns : goal.returns
returns c = commands_make_hands c.allowed_without_fault.ensures
