use Rattle.std.proofs.Common.{rules}
use Rattle.learner.proofs.learner.Learner.new.Goals as goal

pub returns : goal.returns
returns c = search rules
