use Rattle.slot_log.proofs.Slotted.{fronts_go_on}
use Rattle.slot_log.proofs.laws.fronts_go_on.Goals as goal

pub returns : goal.returns
returns c = fronts_go_on
