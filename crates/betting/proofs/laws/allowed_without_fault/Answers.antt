use Rattle.betting.proofs.LegalLaws.{allowed_without_fault}
use Rattle.betting.proofs.laws.allowed_without_fault.Goals as goal

pub returns : goal.returns
returns c = allowed_without_fault
