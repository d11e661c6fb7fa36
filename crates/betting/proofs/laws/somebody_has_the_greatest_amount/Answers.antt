use Rattle.betting.proofs.LegalLaws.{somebody_has_the_greatest_amount}
use Rattle.betting.proofs.laws.somebody_has_the_greatest_amount.Goals as goal

pub returns : goal.returns
returns c = somebody_has_the_greatest_amount
