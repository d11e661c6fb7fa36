use Rattle.clockwork.proofs.Fairness.{opens_only_then, opens_then}
use Rattle.clockwork.proofs.laws.nobody_is_played_for_before_all_came.Goals as goal

pub returns-clause-only : goal.returns-clause-only
returns-clause-only c = λ looks start. opens_only_then looks start

pub returns-clause-then : goal.returns-clause-then
returns-clause-then c = λ looks start now. opens_then looks start now
