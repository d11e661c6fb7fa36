use Rattle.match_log.proofs.PlayedHands.{hands_end_finished}
use Rattle.match_log.proofs.laws.hands_end_finished.Goals as goal

pub returns : goal.returns
returns c = hands_end_finished c.allowed_without_fault.ensures
