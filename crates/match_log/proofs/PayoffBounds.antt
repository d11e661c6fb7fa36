-- How far a payoff is from 0, from its definition: so far that its text tells it.
use Rattle.std.proofs.Common.{◌≡◌, ℕ, ◌+◌, ◌*◌, ◌/◌, ◌%◌, ◌^◌, ◌<◌, ◌≤◌, Bool, true, false, cond, leb, ltb, max, ℤ, pos, negsuc, ◌-ℤ◌, List, [], ◌∷◌, length, take, get_or, zero, suc, refl, subst, arith}
use Rattle.std.specs.List.{AllByRecursion, fold, sum_by}
use Rattle.std.specs.Int.Signed.{mag}
use Rattle.std.proofs.lemmas.Int.{ints}
use Rattle.std.proofs.lemmas.List.Elements.{All-from_recursion}
use Rattle.std.proofs.lemmas.List.FromFn.{length-map-range_with_len, length-range_with_len}
use Rattle.std.proofs.lemmas.List.Sums.{sum_by-le, count_by-le-length}
use Rattle.std.proofs.Math.Nat.{div-le_self}
use Rattle.game_def.specs.Game.{Game, IsGame}
use Rattle.betting.specs.declared.action.Action.{Action}
use Rattle.betting.specs.Legal.{Legal}
use Rattle.betting.specs.Laws.{NobodyPassesHisStack}
use Rattle.betting.specs.Rounds.{turns}
use Rattle.betting.specs.Turns.{spent}
use Rattle.hand_rank.specs.Worth.{Worth}
use Rattle.side_pots.specs.Pots.{is_eligible, is_same_set, chips_at, levels, pot_of, opens_pot, winners_of, wins, share, won_at, won, payoff}
use Rattle.slot_log.specs.Hand.{Hand}
use Rattle.match_log.specs.Payoffs.{amounts_of, folds_of, values_of, payoffs_of}
use Rattle.match_log.proofs.ByPosition.{stack_fits}
use Rattle.match_log.proofs.Settling.{max_within}
use Rattle.match_log.proofs.FieldCuts.{All-range, All-each}

cond_within : (b : Bool) (x bound : ℕ) → x ≤ bound → cond b x 0 ≤ bound
cond_within true x bound h = h
cond_within false x bound h = omega arith

length_levels : (amounts : List ℕ) → length (levels amounts) ≡ fold max 0 amounts
length_levels amounts = length-range_with_len 1 (fold max 0 amounts)

each_within : {X : Type 0} (f : X → ℕ) (bound : ℕ) (xs : List X) → ((x : X) → f x ≤ bound) → sum_by f xs ≤ length xs * bound
each_within f bound xs each = sum_by-le f bound xs (All-from_recursion (λ x. f x ≤ bound) xs (All-each (λ x. f x ≤ bound) xs each))

-- a sum over all levels
levels_within : (f : ℕ → ℕ) (bound : ℕ) (amounts : List ℕ) → ((level : ℕ) → f level ≤ bound) → sum_by f (levels amounts) ≤ fold max 0 amounts * bound
levels_within f bound amounts each =
    subst (λ (n : ℕ). sum_by f (levels amounts) ≤ n * bound) (length_levels amounts) (each_within f bound (levels amounts) each)

-- a pot has no more than a chip of each player at each level
pot_within : (amounts : List ℕ) (folds : List Bool) (set : ℕ → Bool) → length amounts ≤ 10 → pot_of amounts folds set ≤ fold max 0 amounts * 10
unfolding pot_of
pot_within amounts folds set few =
    levels_within (λ level. cond (is_same_set (length amounts) set (is_eligible amounts folds level)) (chips_at amounts level) 0) 10 amounts (λ level.
    cond_within (is_same_set (length amounts) set (is_eligible amounts folds level)) (chips_at amounts level) 10
    (omega (arith, few, count_by-le-length (λ amount. leb level amount) amounts)))

share_within : (pot : ℕ) (winners : List Bool) (position : ℕ) → share pot winners position ≤ pot + 1
unfolding share
share_within pot winners position =
    cond_within (get_or winners position false) _ (pot + 1) (by (wins winners) (ltb (wins (take position winners)) (pot % wins winners)))
  where
    by : (count : ℕ) (odd : Bool) → pot / count + cond odd 1 0 ≤ pot + 1
    by count true = omega (arith, div-le_self pot count)
    by count false = omega (arith, div-le_self pot count)

-- the amounts of a hand of at most ten players
record AreFew (amounts : List ℕ) : Type 0 where
  few : length amounts ≤ 10
  small : AllByRecursion (λ amount. amount ≤ 2147483647) amounts

most_amount : (amounts : List ℕ) → AreFew amounts → fold max 0 amounts ≤ 2147483647
most_amount amounts are = max_within 0 2147483647 amounts (omega arith) (All-from_recursion (λ x. x ≤ 2147483647) amounts are.small)

won_at_within : (amounts : List ℕ) (folds : List Bool) (values : List Worth) (position level : ℕ) → AreFew amounts → won_at amounts folds values position level ≤ 21474836471
unfolding won_at
won_at_within amounts folds values position level are =
    cond_within (opens_pot amounts folds level) _ 21474836471
    (omega (
      arith,
      share_within (pot_of amounts folds (is_eligible amounts folds level)) (winners_of values (is_eligible amounts folds level)) position,
      pot_within amounts folds (is_eligible amounts folds level) are.few,
      most_amount amounts are,
    ))

won_within : (amounts : List ℕ) (folds : List Bool) (values : List Worth) (position : ℕ) → AreFew amounts → won amounts folds values position ≤ 2147483647 * 21474836471
unfolding won
won_within amounts folds values position are =
    omega (
      arith,
      levels_within (won_at amounts folds values position) 21474836471 amounts (λ level. won_at_within amounts folds values position level are),
      most_amount amounts are,
    )

amount_within : (amounts : List ℕ) (position : ℕ) → AllByRecursion (λ amount. amount ≤ 2147483647) amounts → get_or amounts position 0 ≤ 2147483647
amount_within [] position all = omega arith
amount_within (amount ∷ amounts) zero all = all.0
amount_within (amount ∷ amounts) (suc position) all = amount_within amounts position all.1

difference_within : (z : ℤ) (a b : ℕ) → z ≡ pos a -ℤ pos b → mag z ≤ a + b
difference_within (pos n) a b e = omega (arith, ints, e)
difference_within (negsuc n) a b e = omega (arith, ints, e)

payoff_within : (amounts : List ℕ) (folds : List Bool) (values : List Worth) (position : ℕ) → AreFew amounts → mag (payoff amounts folds values position) < 10 ^ 62
payoff_within amounts folds values position are =
    omega (
      arith,
      difference_within (payoff amounts folds values position) (won amounts folds values position) (get_or amounts position 0) refl,
      won_within amounts folds values position are,
      amount_within amounts position are.small,
    )

amounts_few : NobodyPassesHisStack → (game : Game) (past : List Action) → IsGame game → Legal game past → AreFew (amounts_of game past)
unfolding amounts_of
amounts_few stacks game past is legal = record {
  few = let most = is.most_players in omega (arith, length-map-range_with_len (spent game (turns game past)) 0 game.players);
  small =
      All-range (λ amount. amount ≤ 2147483647) (spent game (turns game past)) 0 game.players (λ position from to.
      omega (arith, stacks game past position is legal (omega arith), stack_fits game position is (omega arith)));
}

-- each payoff of a hand
pub payoffs_bounded : NobodyPassesHisStack → (game : Game) (hand : Hand) → IsGame game → Legal game hand.past → AllByRecursion (λ z. mag z < 10 ^ 62) (payoffs_of game hand)
unfolding payoffs_of
payoffs_bounded stacks game hand is legal =
    let are = amounts_few stacks game hand.past is legal in
    All-range (λ z. mag z < 10 ^ 62) (payoff (amounts_of game hand.past) (folds_of game hand.past) (values_of game.players hand.deal)) 0 (length (amounts_of game hand.past))
    (λ position from to. payoff_within (amounts_of game hand.past) (folds_of game hand.past) (values_of game.players hand.deal) position are)
