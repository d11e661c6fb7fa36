use Rattle.hand_rank.proofs.Sets.{without_rank}
use Rattle.std.proofs.Common.{bit_and, ◌-◌, ◌*◌, ◌%◌, ◌^◌}
use Rattle.hand_rank.proofs.rank_set.RankSet.five_highest.Goals as goal

pub returns-clause-highest : goal.returns-clause-highest
returns-clause-highest c = (
  c.highest-first.ensures.highest,
  (
    c.without-below_first.result.bits,
    c.without-below_first.ensures,
    (
      c.highest-second.ensures.highest,
      (
        c.without-below_second.result.bits,
        c.without-below_second.ensures,
        (
          c.highest-third.ensures.highest,
          (
            c.without-below_third.result.bits,
            c.without-below_third.ensures,
            (
              c.highest-fourth.ensures.highest,
              (
                c.without.result.bits,
                c.without.ensures,
                (c.highest-fifth.ensures.highest, (bit_and c.without.result.bits (65535 - 1 * 2 ^ c.highest-fifth.result % 65536), without_rank c.without.result.bits c.highest-fifth.result c.highest-fifth.ensures.range c.without.result.in_range, tt)),
              ),
            ),
          ),
        ),
      ),
    ),
  ),
)
