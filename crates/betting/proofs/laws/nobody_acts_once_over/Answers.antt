use Rattle.betting.proofs.LegalLaws.{nobody_acts_once_over}
use Rattle.betting.proofs.laws.nobody_acts_once_over.Goals as goal

pub returns : goal.returns
returns c = nobody_acts_once_over
