use Rattle.std.proofs.Common.{rules}
use Rattle.hand_rank.proofs.hand_value.HandValuePartialOrd.partial_cmp.Goals as goal

pub returns : goal.returns
returns c = search rules
