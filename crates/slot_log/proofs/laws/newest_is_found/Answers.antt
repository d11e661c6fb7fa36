use Rattle.slot_log.proofs.Ranges.{newest_is_found}
use Rattle.slot_log.proofs.laws.newest_is_found.Goals as goal

pub returns : goal.returns
returns c = newest_is_found
