use Rattle.std.proofs.Common.{refl}
use Rattle.hand_rank.specs.Five.{counts_of}
use Rattle.hand_rank.proofs.Counts.{counts_of-more, sum-counts_more}
use Rattle.hand_rank.proofs.five.rank_counts.Goals as goal

pub loop-card-init : goal.loop-card-init
unfolding counts_of
loop-card-init c = record { counts = refl; total = refl }

pub loop-card-preserved : goal.loop-card-preserved
loop-card-preserved c = record {
  counts = counts_of-more c.args.cards.now c.loop-card.counts c.loop-card.card-index c.card-item.result c.rank.result c.loop-card-test.true c.card-item.is c.rank.ensures.value c.rank.ensures.range c.loop-card.invariant.counts;
  total = sum-counts_more c.args.cards.now c.loop-card.counts c.loop-card.card-index c.rank.result c.rank.ensures.range c.loop-card.invariant.counts c.loop-card.invariant.total;
}
