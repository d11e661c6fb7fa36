-- What the pots ask of a play, and how far a payoff is from 0.
use Rattle.std.proofs.Common.{◌≡◌, ℕ, ◌*◌, ◌<◌, ◌≤◌, ℤ, pos, ◌+ℤ◌, ◌≤ℤ◌, neg_ℤ, Bool, true, max, List, [], ◌∷◌, length, take, get_or, zero, suc, sym, ◌∙◌, ap, subst, arith}
use Rattle.std.specs.List.{All, fold}
use Rattle.std.proofs.lemmas.Int.{ints}
use Rattle.std.proofs.lemmas.List.Elements.{All-head, All-tail, All-get_or, All-from_get_or}
use Rattle.std.proofs.lemmas.List.FromFn.{get_or-map-range_with_len, length-map-range_with_len}
use Rattle.game_def.specs.Game.{Game, IsGame}
use Rattle.betting.specs.declared.action.Action.{Action}
use Rattle.betting.specs.Legal.{Legal}
use Rattle.betting.specs.Laws.{SomebodyHasTheGreatestAmount}
use Rattle.betting.specs.Rounds.{turns}
use Rattle.betting.specs.Turns.{spent, max_spent, folded}
use Rattle.side_pots.specs.Amounts.{IsAmount}
use Rattle.side_pots.specs.Pots.{total, payoff, payoffs}
use Rattle.card_core.specs.Deal.{IsDeal, player_count}
use Rattle.hand_rank.specs.Worth.{Worth}
use Rattle.slot_log.specs.Hand.{Hand}
use Rattle.match_log.specs.BestFive.{best_worth}
use Rattle.match_log.specs.Payoffs.{seven_of, amounts_of, folds_of, values_of, payoffs_of, IsWithin, most_payoff}
use Rattle.game_def.proofs.Amounts.{each_within}

-- ---- somebody who hasn't folded has the greatest amount in

pub max_within : (start most : ℕ) (xs : List ℕ) → start ≤ most → All (λ x. x ≤ most) xs → fold max start xs ≤ most
max_within start most [] h all = h
max_within start most (x ∷ xs) h all =
    let first : x ≤ most = All-head (λ y. y ≤ most) x xs all in
    max_within (max start x) most xs (omega arith) (All-tail (λ y. y ≤ most) x xs all)

pub length_amounts : (game : Game) (past : List Action) → length (amounts_of game past) ≡ game.players
unfolding amounts_of
length_amounts game past = length-map-range_with_len (spent game (turns game past)) 0 game.players

pub length_folds : (game : Game) (past : List Action) → length (folds_of game past) ≡ game.players
unfolding folds_of
length_folds game past = length-map-range_with_len (folded (turns game past)) 0 game.players

amount_at : (game : Game) (past : List Action) (position : ℕ) → position < game.players → get_or (amounts_of game past) position 0 ≡ spent game (turns game past) position
unfolding amounts_of
amount_at game past position within = get_or-map-range_with_len (spent game (turns game past)) 0 game.players position position 0 within (omega arith)

fold_at : (game : Game) (past : List Action) (position : ℕ) → position < game.players → get_or (folds_of game past) position true ≡ folded (turns game past) position
unfolding folds_of
fold_at game past position within = get_or-map-range_with_len (folded (turns game past)) 0 game.players position position true within (omega arith)

pub somebody_has_most : (game : Game) (past : List Action) → SomebodyHasTheGreatestAmount → IsGame game → Legal game past → All (λ amount. amount ≤ max_spent game (turns game past)) (amounts_of game past) → IsAmount (amounts_of game past) (folds_of game past) (fold max 0 (amounts_of game past))
somebody_has_most game past law is legal all =
    let some = law game past is legal in
    let owner : ℕ = some.0 in
    let at : get_or (amounts_of game past) owner 0 ≡ max_spent game (turns game past) = amount_at game past owner some.1 ∙ some.3 in
    let above : get_or (amounts_of game past) owner 0 ≤ fold max 0 (amounts_of game past) = each_within 0 (amounts_of game past) owner in
    let below : fold max 0 (amounts_of game past) ≤ max_spent game (turns game past) = max_within 0 (max_spent game (turns game past)) (amounts_of game past) (omega arith) all in
    record { owner = owner; unfolded = fold_at game past owner some.1 ∙ some.2; exactly = omega (arith, at, above, below) }

-- the same of lists that are those
pub somebody_has_most_as : (game : Game) (past : List Action) (items spent : List ℕ) (folds : List Bool) → SomebodyHasTheGreatestAmount → IsGame game → Legal game past → items ≡ amounts_of game past → spent ≡ amounts_of game past → folds ≡ folds_of game past → All (λ amount. amount ≤ max_spent game (turns game past)) items → IsAmount spent folds (fold max 0 spent)
somebody_has_most_as game past items spent folds law is legal as_items as_spent as_folds all =
    let most : All (λ amount. amount ≤ max_spent game (turns game past)) (amounts_of game past) = subst (λ (xs : List ℕ). All (λ amount. amount ≤ max_spent game (turns game past)) xs) as_items all in
    let found : IsAmount (amounts_of game past) (folds_of game past) (fold max 0 (amounts_of game past)) = somebody_has_most game past law is legal most in
    subst (λ (fs : List Bool). IsAmount spent fs (fold max 0 spent)) (sym as_folds)
    (subst (λ (xs : List ℕ). IsAmount xs (folds_of game past) (fold max 0 xs)) (sym as_spent) found)

-- for how many players a game's deal is
pub deal_players : (players : ℕ) (deal : List ℕ) → IsDeal players deal → player_count deal ≡ players
deal_players players deal dealt = omega (arith, dealt.count)

pub length_values : (players : ℕ) (deal : List ℕ) → length (values_of players deal) ≡ players
unfolding values_of
length_values players deal = length-map-range_with_len (λ position. best_worth (seven_of deal position)) 0 players

pub length_payoffs : (game : Game) (hand : Hand) → length (payoffs_of game hand) ≡ game.players
unfolding payoffs_of
length_payoffs game hand =
    length-map-range_with_len (payoff (amounts_of game hand.past) (folds_of game hand.past) (values_of game.players hand.deal)) 0 (length (amounts_of game hand.past))
    ∙ length_amounts game hand.past

pub payoffs_as : (game : Game) (hand : Hand) (items : List ℤ) (spent : List ℕ) (folds : List Bool) (values : List Worth) → items ≡ payoffs spent folds values → spent ≡ amounts_of game hand.past → folds ≡ folds_of game hand.past → values ≡ values_of game.players hand.deal → items ≡ payoffs_of game hand
unfolding payoffs_of
payoffs_as game hand items spent folds values read as_spent as_folds as_values =
    read ∙ (ap (λ (s : List ℕ). payoffs s folds values) as_spent
    ∙ (ap (λ (f : List Bool). payoffs (amounts_of game hand.past) f values) as_folds
    ∙ ap (λ (v : List Worth). payoffs (amounts_of game hand.past) (folds_of game hand.past) v) as_values))

pub values_as : (players k : ℕ) (deal : List ℕ) (values : List Worth) → IsDeal players deal → k ≡ players → take (player_count deal) values ≡ values_of (player_count deal) deal → take k values ≡ values_of players deal
values_as players k deal values dealt same read =
    let count : player_count deal ≡ players = deal_players players deal dealt in
    ap (λ (n : ℕ). take n values) (same ∙ sym count) ∙ (read ∙ ap (λ (n : ℕ). values_of n deal) count)

-- ---- how far a payoff is from 0

from_start : (start : ℤ) (xs : List ℤ) → fold ◌+ℤ◌ start xs ≡ start +ℤ total xs
from_start start [] = omega (arith, ints)
from_start start (x ∷ xs) = omega (arith, ints, from_start (start +ℤ x) xs, from_start (pos 0 +ℤ x) xs)

abbrev IsNoGreatLoss : ℤ → Type 0
IsNoGreatLoss x = neg_ℤ (pos 2147483647) ≤ℤ x

total_least : (xs : List ℤ) → All IsNoGreatLoss xs → neg_ℤ (pos (2147483647 * length xs)) ≤ℤ total xs
total_least [] all = omega (arith, ints)
total_least (x ∷ xs) all =
    let first : neg_ℤ (pos 2147483647) ≤ℤ x = All-head IsNoGreatLoss x xs all in
    omega (arith, ints, first, total_least xs (All-tail IsNoGreatLoss x xs all), from_start (pos 0 +ℤ x) xs)

each_from_total : (xs : List ℤ) (i : ℕ) → i < length xs → All IsNoGreatLoss xs → get_or xs i (pos 0) ≤ℤ (total xs +ℤ pos (2147483647 * length xs))
each_from_total [] i within all = absurd (omega arith)
each_from_total (x ∷ xs) zero within all =
    omega (arith, ints, total_least xs (All-tail IsNoGreatLoss x xs all), from_start (pos 0 +ℤ x) xs)
each_from_total (x ∷ xs) (suc i) within all =
    let first : neg_ℤ (pos 2147483647) ≤ℤ x = All-head IsNoGreatLoss x xs all in
    omega (arith, ints, first, each_from_total xs i (omega arith) (All-tail IsNoGreatLoss x xs all), from_start (pos 0 +ℤ x) xs)

-- where nobody loses more than the most chips, and all is zero-sum, nobody wins more than ten times as much
pub payoffs_within : (xs : List ℤ) → length xs ≤ 10 → total xs ≡ pos 0 → All IsNoGreatLoss xs → All (IsWithin most_payoff) xs
payoffs_within xs few zero_sum all =
    All-from_get_or (IsWithin most_payoff) xs (pos 0) (λ i within.
    let low : neg_ℤ (pos 2147483647) ≤ℤ get_or xs i (pos 0) = All-get_or IsNoGreatLoss xs i (pos 0) within all in
    record { least = omega (arith, ints, low); greatest = omega (arith, ints, few, zero_sum, each_from_total xs i within all) })

-- what no player loses more of than he put in
pub no_great_loss : (spent : List ℕ) (folds : List Bool) (values : List Worth) → All (λ amount. amount ≤ 2147483647) spent → ((position : ℕ) → position < length spent → neg_ℤ (pos (get_or spent position 0)) ≤ℤ payoff spent folds values position) → All IsNoGreatLoss (payoffs spent folds values)
no_great_loss spent folds values fit least =
    All-from_get_or IsNoGreatLoss (payoffs spent folds values) (pos 0) (λ i within.
    let place : i < length spent = omega (arith, within, length-map-range_with_len (payoff spent folds values) 0 (length spent)) in
    let at : get_or (payoffs spent folds values) i (pos 0) ≡ payoff spent folds values i = get_or-map-range_with_len (payoff spent folds values) 0 (length spent) i i (pos 0) place (omega arith) in
    let small : get_or spent i 0 ≤ 2147483647 = All-get_or (λ amount. amount ≤ 2147483647) spent i 0 place fit in
    subst (λ (z : ℤ). IsNoGreatLoss z) (sym at) (omega (arith, ints, small, least i place)))

pub all_payoffs_within : (items : List ℤ) (spent : List ℕ) (folds : List Bool) (values : List Worth) → items ≡ payoffs spent folds values → length items ≤ 10 → total items ≡ pos 0 → All (λ amount. amount ≤ 2147483647) spent → ((position : ℕ) → position < length spent → neg_ℤ (pos (get_or spent position 0)) ≤ℤ payoff spent folds values position) → All (IsWithin most_payoff) items
all_payoffs_within items spent folds values read few zero_sum fit least =
    payoffs_within items few zero_sum (subst (λ (xs : List ℤ). All IsNoGreatLoss xs) (sym read) (no_great_loss spent folds values fit least))
