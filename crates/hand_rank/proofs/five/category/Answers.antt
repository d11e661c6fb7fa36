use Rattle.hand_rank.specs.Five.{category_of}
use Rattle.std.proofs.Common.{rules}
use Rattle.hand_rank.proofs.five.category.Goals as goal

pub returns-then-pairs-eq1-clause-value : goal.returns-then-pairs-eq1-clause-value
unfolding category_of
returns-then-pairs-eq1-clause-value c = search rules

pub returns-then-is_flush-2-clause-value : goal.returns-then-is_flush-2-clause-value
unfolding category_of
returns-then-is_flush-2-clause-value c = search rules

pub returns-then-groups_of-eq1-clause-value : goal.returns-then-groups_of-eq1-clause-value
unfolding category_of
returns-then-groups_of-eq1-clause-value c = search rules
