use Rattle.hand_rank.proofs.Sets.{without_rank}
use Rattle.hand_rank.proofs.rank_set.RankSet.without.Goals as goal

pub returns : goal.returns
returns c = without_rank c.args.self.bits c.args.rank c.requires c.args.self.in_range
