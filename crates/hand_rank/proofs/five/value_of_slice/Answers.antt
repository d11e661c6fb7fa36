use Rattle.std.proofs.Common.{◌∙◌, sym}
use Rattle.hand_rank.proofs.Ranked.{straight_top-below, worth_from_parts}
use Rattle.hand_rank.proofs.five.value_of_slice.Goals as goal

pub deciding_ranks-requires-clause-top_in_range : goal.deciding_ranks-requires-clause-top_in_range
deciding_ranks-requires-clause-top_in_range c = λ x e. straight_top-below c.rank_counts-counts.result x (sym c.straight_top-top.ensures ∙ e)

pub returns : goal.returns
returns c =
    worth_from_parts c.args.cards.now c.rank_counts-counts.result c.deciding_ranks.result c.straight_top-top.result c.is_flush.result c.is_some.result c.category-category.result c.new.result
    c.rank_counts-counts.ensures.counts c.straight_top-top.ensures c.is_flush.ensures c.is_some.ensures c.category-category.ensures.value c.deciding_ranks.ensures.value c.new.ensures
