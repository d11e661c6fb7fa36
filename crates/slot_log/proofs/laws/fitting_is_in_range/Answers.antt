use Rattle.slot_log.proofs.Ranges.{fitting_is_in_range}
use Rattle.slot_log.proofs.laws.fitting_is_in_range.Goals as goal

pub returns : goal.returns
returns c = fitting_is_in_range c.hands_end.ensures c.raises_go_up.ensures
