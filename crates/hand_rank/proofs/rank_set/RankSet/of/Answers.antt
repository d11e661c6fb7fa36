use Rattle.hand_rank.proofs.Sets.{one_rank_below, one_rank_is}
use Rattle.hand_rank.proofs.rank_set.RankSet.of.Goals as goal

pub invariant_of-result : goal.invariant_of-result
invariant_of-result c = record { in_range = one_rank_below c.args.rank c.requires }

pub returns : goal.returns
returns c = one_rank_is c.args.rank c.requires
