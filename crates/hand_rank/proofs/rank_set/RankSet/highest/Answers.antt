use Rattle.std.proofs.Common.{arith}
use Rattle.hand_rank.proofs.rank_set.RankSet.highest.Goals as goal

pub returns-clause-range : goal.returns-clause-range
returns-clause-range c = c.highest_bit.ensures.range 13 (omega arith) (omega arith) c.args.self.in_range
