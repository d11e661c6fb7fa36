use Rattle.betting.proofs.LegalLaws.{nobody_passes_his_stack}
use Rattle.betting.proofs.laws.nobody_passes_his_stack.Goals as goal

pub returns : goal.returns
returns c = nobody_passes_his_stack
