use Rattle.std.proofs.Common.{rules}
use Rattle.hand_rank.proofs.hand_value.HandValue.ranks.Goals as goal

pub returns-clause-value : goal.returns-clause-value
returns-clause-value c = search rules
