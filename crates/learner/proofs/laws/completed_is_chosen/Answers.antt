use Rattle.learner.proofs.Counting.{completed_is_chosen, completes_once}
use Rattle.learner.proofs.laws.completed_is_chosen.Goals as goal

pub returns-clause-chosen : goal.returns-clause-chosen
returns-clause-chosen c = completed_is_chosen

pub returns-clause-once : goal.returns-clause-once
returns-clause-once c = completes_once
