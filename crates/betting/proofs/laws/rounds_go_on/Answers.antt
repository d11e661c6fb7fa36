use Rattle.betting.proofs.LegalLaws.{rounds_go_on}
use Rattle.betting.proofs.laws.rounds_go_on.Goals as goal

pub returns : goal.returns
returns c = rounds_go_on
