use Rattle.learner.proofs.Same.{same_is_equal}
use Rattle.learner.proofs.laws.same_is_equal.Goals as goal

pub returns : goal.returns
returns c = same_is_equal
