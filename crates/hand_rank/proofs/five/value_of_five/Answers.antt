use Rattle.std.proofs.Common.{rules}
use Rattle.hand_rank.proofs.five.value_of_five.Goals as goal

pub returns : goal.returns
returns c = search rules
