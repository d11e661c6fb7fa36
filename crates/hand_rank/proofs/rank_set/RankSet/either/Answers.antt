use Rattle.std.proofs.lemmas.Nat.{or_lt}
use Rattle.hand_rank.proofs.rank_set.RankSet.either.Goals as goal

pub invariant_of-result : goal.invariant_of-result
invariant_of-result c = record { in_range = or_lt 13 c.args.self.bits c.args.other.bits c.args.self.in_range c.args.other.in_range }
