use Rattle.betting.proofs.LegalLaws.{somebody_may_call}
use Rattle.betting.proofs.laws.somebody_may_call.Goals as goal

pub returns : goal.returns
returns c = somebody_may_call
