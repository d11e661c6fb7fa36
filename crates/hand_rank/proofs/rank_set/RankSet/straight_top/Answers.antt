use Rattle.std.proofs.Common.{◌<◌, ◌^◌, arith, Fits-lit}
use Rattle.hand_rank.proofs.Sets.{no_straight, highest_straight, row_runs_below, runs_of, row_of}
use Rattle.hand_rank.proofs.rank_set.RankSet.straight_top.Goals as goal

pub overflow_add-result : goal.overflow_add-result
overflow_add-result c =
    let short : c.highest_bit.result < 10 = c.highest_bit.ensures.range 10 (omega arith) (omega arith) (row_runs_below c.args.self.bits c.args.self.in_range) in
    omega arith

pub returns-then-runs-eq0-clause-value : goal.returns-then-runs-eq0-clause-value
returns-then-runs-eq0-clause-value c = no_straight c.args.self.bits c.args.self.in_range c.if-runs-eq0.true

pub returns-else-runs-eq0-clause-value : goal.returns-else-runs-eq0-clause-value
returns-else-runs-eq0-clause-value c =
    highest_straight c.args.self.bits c.highest_bit.result c.args.self.in_range (c.highest_bit.ensures.highest (omega arith)) (c.highest_bit.ensures.range 10 (omega arith) (omega arith) (row_runs_below c.args.self.bits c.args.self.in_range))

pub returns-else-runs-eq0-clause-range : goal.returns-else-runs-eq0-clause-range
returns-else-runs-eq0-clause-range c =
    let short : c.highest_bit.result < 10 = c.highest_bit.ensures.range 10 (omega arith) (omega arith) (row_runs_below c.args.self.bits c.args.self.in_range) in
    omega arith
