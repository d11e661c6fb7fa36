use Rattle.betting.proofs.LegalLaws.{amounts_never_fall}
use Rattle.betting.proofs.laws.amounts_never_fall.Goals as goal

pub returns : goal.returns
returns c = amounts_never_fall
