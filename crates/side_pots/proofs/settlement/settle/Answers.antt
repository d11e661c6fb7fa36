use Rattle.std.proofs.Common.{◌∙◌, ap}
use Rattle.side_pots.specs.Amounts.{IsLastAmount}
use Rattle.side_pots.specs.Pots.{total}
use Rattle.side_pots.proofs.PayoffLaws.{payoffs-total, payoff-last}
use Rattle.side_pots.proofs.Settled.{settled_none, settled_next, settled_as, pot_has_winner, next_fits, all_fit, gains_length, payoffs_settled, all_is_won, last_from_none, last_within, less_left}
use Rattle.side_pots.proofs.settlement.settle.Goals as goal

pub loop-top-init : goal.loop-top-init
loop-top-init c = settled_none c.args.spent.now c.args.folded.now c.args.values.now c.nothing_won-won.result.items c.nothing_won-won.ensures

pub with_shares-won-requires-clause-some_winner : goal.with_shares-won-requires-clause-some_winner
with_shares-won-requires-clause-some_winner c =
    pot_has_winner c.args.spent.now c.args.folded.now c.args.values.now c.loop-top.below c.in-Some.top c.as_slice-in-Some.result.now c.requires.folded c.requires.values c.in-Some.ensures (c.as_slice-in-Some.ensures.value ∙ c.winners-winners.ensures)

pub with_shares-won-requires-clause-fits : goal.with_shares-won-requires-clause-fits
with_shares-won-requires-clause-fits c =
    next_fits c.args.spent.now c.args.folded.now c.args.values.now c.as_slice.result.now c.loop-top.below c.in-Some.top c.chips_between-pot.result c.requires.ten_players c.requires.amounts c.in-Some.ensures c.chips_between-pot.ensures
    (settled_as c.args.spent.now c.args.folded.now c.args.values.now c.loop-top.won.items c.as_slice.result.now c.loop-top.below c.as_slice.ensures.value c.loop-top.invariant)

pub loop-top-smaller : goal.loop-top-smaller
loop-top-smaller c = less_left c.args.spent.now c.args.folded.now c.loop-top.below c.in-Some.top c.in-Some.ensures

pub loop-top-preserved : goal.loop-top-preserved
loop-top-preserved c =
    settled_next c.args.spent.now c.args.folded.now c.args.values.now c.as_slice.result.now c.with_shares-won.result.items c.loop-top.below c.in-Some.top c.chips_between-pot.result c.as_slice-in-Some.result.now
    c.requires.folded c.in-Some.ensures c.chips_between-pot.ensures (c.as_slice-in-Some.ensures.value ∙ c.winners-winners.ensures) c.with_shares-won.ensures.shares c.with_shares-won.ensures.total
    (settled_as c.args.spent.now c.args.folded.now c.args.values.now c.loop-top.won.items c.as_slice.result.now c.loop-top.below c.as_slice.ensures.value c.loop-top.invariant)

pub less_spent-requires-clause-one_length : goal.less_spent-requires-clause-one_length
less_spent-requires-clause-one_length c =
    gains_length c.args.spent.now c.args.folded.now c.args.values.now c.as_slice-2.result.now c.loop-top.below
    (settled_as c.args.spent.now c.args.folded.now c.args.values.now c.loop-top.won.items c.as_slice-2.result.now c.loop-top.below c.as_slice-2.ensures.value c.loop-top.invariant)

pub less_spent-requires-clause-fits : goal.less_spent-requires-clause-fits
less_spent-requires-clause-fits c =
    all_fit c.args.spent.now c.args.folded.now c.args.values.now c.as_slice-2.result.now c.loop-top.below c.requires.ten_players c.requires.amounts
    (settled_as c.args.spent.now c.args.folded.now c.args.values.now c.loop-top.won.items c.as_slice-2.result.now c.loop-top.below c.as_slice-2.ensures.value c.loop-top.invariant)

pub returns-clause-payoffs : goal.returns-clause-payoffs
returns-clause-payoffs c =
    let last : IsLastAmount c.args.spent.now c.args.folded.now c.loop-top.below = last_from_none c.args.spent.now c.args.folded.now c.loop-top.below c.next_amount.result c.in_default.not-Some c.next_amount.ensures in
    payoffs_settled c.args.spent.now c.args.folded.now c.args.values.now c.as_slice-2.result.now c.less_spent.result.items c.loop-top.below last c.requires.greatest
    (settled_as c.args.spent.now c.args.folded.now c.args.values.now c.loop-top.won.items c.as_slice-2.result.now c.loop-top.below c.as_slice-2.ensures.value c.loop-top.invariant) c.less_spent.ensures

pub returns-clause-zero_sum : goal.returns-clause-zero_sum
returns-clause-zero_sum c =
    let last : IsLastAmount c.args.spent.now c.args.folded.now c.loop-top.below = last_from_none c.args.spent.now c.args.folded.now c.loop-top.below c.next_amount.result c.in_default.not-Some c.next_amount.ensures in
    ap total (payoffs_settled c.args.spent.now c.args.folded.now c.args.values.now c.as_slice-2.result.now c.less_spent.result.items c.loop-top.below last c.requires.greatest
    (settled_as c.args.spent.now c.args.folded.now c.args.values.now c.loop-top.won.items c.as_slice-2.result.now c.loop-top.below c.as_slice-2.ensures.value c.loop-top.invariant) c.less_spent.ensures)
    ∙ payoffs-total c.args.spent.now c.args.folded.now c.args.values.now (all_is_won c.args.spent.now c.args.folded.now c.args.values.now c.loop-top.won.items c.loop-top.below last c.requires.greatest c.loop-top.invariant)

pub returns-clause-all_to_the_last : goal.returns-clause-all_to_the_last
returns-clause-all_to_the_last c =
    let last : IsLastAmount c.args.spent.now c.args.folded.now c.loop-top.below = last_from_none c.args.spent.now c.args.folded.now c.loop-top.below c.next_amount.result c.in_default.not-Some c.next_amount.ensures in
    λ position unfolded others.
    payoff-last c.args.spent.now c.args.folded.now c.args.values.now position (last_within c.args.spent.now c.args.folded.now position c.requires.folded unfolded)
    (all_is_won c.args.spent.now c.args.folded.now c.args.values.now c.loop-top.won.items c.loop-top.below last c.requires.greatest c.loop-top.invariant) others
