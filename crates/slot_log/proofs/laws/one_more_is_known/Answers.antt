use Rattle.slot_log.proofs.Slotted.{one_more_is_known}
use Rattle.slot_log.proofs.laws.one_more_is_known.Goals as goal

pub returns : goal.returns
returns c = one_more_is_known
