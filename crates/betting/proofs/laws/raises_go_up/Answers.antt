use Rattle.betting.proofs.LegalLaws.{raises_go_up}
use Rattle.betting.proofs.laws.raises_go_up.Goals as goal

pub returns : goal.returns
returns c = raises_go_up
