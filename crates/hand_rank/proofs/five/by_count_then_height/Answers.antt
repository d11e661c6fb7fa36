use Rattle.std.proofs.Common.{◌≡◌, ◌<◌, ◌∙◌, ap, length}
use Rattle.std.proofs.lemmas.List.Elements.{All-same}
use Rattle.hand_rank.specs.Five.{by_count_then_height}
use Rattle.hand_rank.proofs.Ranked.{room_for_group, ranked_all, length-by_count_then_height, All-by_count_then_height}
use Rattle.hand_rank.proofs.five.by_count_then_height.Goals as goal

pub push_ranks_coming-requires : goal.push_ranks_coming-requires
push_ranks_coming-requires c = room_for_group c.loop-size.ranks.items c.args.counts.now c.loop-size.size-index c.loop-size.invariant c.loop-size-test.true c.told-counts c.requires

pub unreachable-requires : goal.unreachable-requires
unreachable-requires c =
    let whole : length c.loop-size.ranks.items ≡ 5 =
    ap length (ranked_all c.loop-size.ranks.items c.args.counts.now c.loop-size.size-index c.loop-size.invariant c.loop-size-test.false)
    ∙ length-by_count_then_height c.args.counts.now c.told-counts c.requires in
    absurd (let no = c.in-Err.ensures.variant.1 whole in cc)

pub returns-clause-value : goal.returns-clause-value
returns-clause-value c = c.in-Ok.ensures.ok ∙ ranked_all c.loop-size.ranks.items c.args.counts.now c.loop-size.size-index c.loop-size.invariant c.loop-size-test.false

pub returns-clause-range : goal.returns-clause-range
returns-clause-range c =
    All-same (λ rank. rank < 13) c.in-Ok.five (by_count_then_height c.args.counts.now)
    (c.in-Ok.ensures.ok ∙ ranked_all c.loop-size.ranks.items c.args.counts.now c.loop-size.size-index c.loop-size.invariant c.loop-size-test.false)
    (All-by_count_then_height c.args.counts.now)
