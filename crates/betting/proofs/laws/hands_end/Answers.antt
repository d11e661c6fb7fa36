use Rattle.betting.proofs.LegalLaws.{hands_end}
use Rattle.betting.proofs.laws.hands_end.Goals as goal

pub returns : goal.returns
returns c = hands_end
