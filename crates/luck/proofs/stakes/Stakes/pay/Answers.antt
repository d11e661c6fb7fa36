use Rattle.std.proofs.Common.{◌≤◌, ℕ, List, ap, sym, subst, take, length, arith}
use Rattle.std.specs.List.{All}
use Rattle.std.proofs.lemmas.List.FromFn.{length-map-range_with_len}
use Rattle.side_pots.specs.Pots.{payoff}
use Rattle.match_log.proofs.Settling.{all_payoffs_within}
use Rattle.luck.proofs.stakes.Stakes.pay.Goals as goal

pub returns-clause-within : goal.returns-clause-within
returns-clause-within c =
    let spent = c.as_slice.result.now in
    let folds = c.as_slice-2.result.now in
    let values = take c.players.result c.values-values.result in
    let few : length c.settle.result.items ≤ 10 =
    omega (arith, ap length c.settle.ensures.payoffs, length-map-range_with_len (payoff spent folds values) 0 (length spent), ap length c.as_slice.ensures.value, c.self.invariant.most) in
    let fit : All (λ amount. amount ≤ 2147483647) spent = subst (λ (xs : List ℕ). All (λ amount. amount ≤ 2147483647) xs) (sym c.as_slice.ensures.value) c.self.invariant.amounts in
    all_payoffs_within c.settle.result.items spent folds values c.settle.ensures.payoffs few c.settle.ensures.zero_sum fit c.settle.ensures.no_more_than_spent
