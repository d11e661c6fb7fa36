use Rattle.std.proofs.Common.{◌≡◌, ◌≤◌, ◌∙◌, ap, sym, subst, take, length, arith, ℕ, List}
use Rattle.std.specs.List.{All}
use Rattle.betting.specs.Legal.{Legal}
use Rattle.betting.specs.Rounds.{turns}
use Rattle.betting.specs.Turns.{max_spent}
use Rattle.match_log.specs.Payoffs.{amounts_of, folds_of, values_of}
use Rattle.match_log.proofs.Settling.{somebody_has_most_as, length_values, length_amounts, length_folds, length_payoffs, payoffs_as, all_payoffs_within, values_as}
use Rattle.match_log.proofs.settlement.payoffs.Goals as goal

spent_is : (c : goal.After-settle-arg-1) → c.as_slice.result.now ≡ amounts_of c.args.game.now c.args.play.now.past
spent_is c = c.as_slice.ensures.value ∙ c.amounts-amounts.ensures.value

folds_are : (c : goal.After-settle-arg-1) → c.as_slice-2.result.now ≡ folds_of c.args.game.now c.args.play.now.past
folds_are c = c.as_slice-2.ensures.value ∙ c.folds-folds.ensures

values_are : (c : goal.After-settle-arg-1) → take c.players.result c.values-values.result ≡ values_of c.args.game.now.players c.args.deal.now
values_are c = values_as c.args.game.now.players c.players.result c.args.deal.now c.values-values.result c.requires.dealt c.players.ensures.value c.values-values.ensures

pub settle-requires-clause-two_players : goal.settle-requires-clause-two_players
settle-requires-clause-two_players c = omega (arith, ap length (spent_is c), length_amounts c.args.game.now c.args.play.now.past, c.players.ensures.value, c.players.ensures.least)

pub settle-requires-clause-folded : goal.settle-requires-clause-folded
settle-requires-clause-folded c = omega (arith, ap length (spent_is c), length_amounts c.args.game.now c.args.play.now.past, ap length (folds_are c), length_folds c.args.game.now c.args.play.now.past)

pub settle-requires-clause-values : goal.settle-requires-clause-values
settle-requires-clause-values c = ap length (values_are c) ∙ (length_values c.args.game.now.players c.args.deal.now ∙ sym (ap length (spent_is c) ∙ length_amounts c.args.game.now c.args.play.now.past))

pub settle-requires-clause-greatest : goal.settle-requires-clause-greatest
settle-requires-clause-greatest c =
    let game = c.args.game.now in
    let past = c.args.play.now.past in
    let legal : Legal game past = subst (λ g. Legal g past) c.requires.same_game c.actions-actions.ensures.legal in
    let most : All (λ amount. amount ≤ max_spent game (turns game past)) c.amounts-amounts.result.items =
    subst (λ g. All (λ amount. amount ≤ max_spent game (turns g past)) c.amounts-amounts.result.items) c.requires.same_game c.amounts-amounts.ensures.greatest in
    somebody_has_most_as game past c.amounts-amounts.result.items c.as_slice.result.now c.as_slice-2.result.now c.somebody_has_the_greatest_amount.ensures c.limits.ensures legal
    c.amounts-amounts.ensures.value (spent_is c) (folds_are c) most

pub returns-clause-value : goal.returns-clause-value
returns-clause-value c =
    payoffs_as c.args.game.now (record { deal = c.args.deal.now; past = c.args.play.now.past }) c.settle.result.items c.as_slice.result.now c.as_slice-2.result.now (take c.players.result c.values-values.result)
    c.settle.ensures.payoffs (c.as_slice.ensures.value ∙ c.amounts-amounts.ensures.value) (c.as_slice-2.ensures.value ∙ c.folds-folds.ensures)
    (values_as c.args.game.now.players c.players.result c.args.deal.now c.values-values.result c.requires.dealt c.players.ensures.value c.values-values.ensures)

pub returns-clause-count : goal.returns-clause-count
returns-clause-count c = ap length (returns-clause-value c) ∙ length_payoffs c.args.game.now (record { deal = c.args.deal.now; past = c.args.play.now.past })

pub returns-clause-within : goal.returns-clause-within
returns-clause-within c =
    let few : length c.settle.result.items ≤ 10 = omega (arith, returns-clause-count c, c.players.ensures.value, c.players.ensures.most) in
    let fit : All (λ amount. amount ≤ 2147483647) c.as_slice.result.now = subst (λ (xs : List ℕ). All (λ amount. amount ≤ 2147483647) xs) (sym c.as_slice.ensures.value) c.amounts-amounts.ensures.most in
    all_payoffs_within c.settle.result.items c.as_slice.result.now c.as_slice-2.result.now (take c.players.result c.values-values.result) c.settle.ensures.payoffs few c.settle.ensures.zero_sum fit c.settle.ensures.no_more_than_spent
