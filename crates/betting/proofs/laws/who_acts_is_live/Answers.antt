use Rattle.betting.proofs.LegalLaws.{who_acts_is_live}
use Rattle.betting.proofs.laws.who_acts_is_live.Goals as goal

pub returns : goal.returns
returns c = who_acts_is_live
