-- What several cards are worth: the best five of them.
use Rattle.std.specs.Prelude.{ℕ, zero, suc, List, [], ◌∷◌, ◌++◌, map, fold}
use Rattle.std.specs.Ordering.{ord_max}
use Rattle.hand_rank.specs.Worth.{Worth, worth_cmp}
use Rattle.hand_rank.specs.Five.{worth_of_five}
use Rattle.side_pots.specs.Pots.{worthless}

-- every choice of so many of the cards: with the first of them or without it
unfoldable pub choices : ℕ → List ℕ → List (List ℕ)
choices zero cards = [] ∷ []
choices (suc count) [] = []
choices (suc count) (card ∷ cards) = map (λ others. card ∷ others) (choices count cards) ++ choices (suc count) cards

-- the greatest of some worths
unfoldable pub greatest_of : List Worth → Worth
greatest_of [] = worthless
greatest_of (first ∷ others) = fold (ord_max worth_cmp) first others

-- what the best five of the cards are worth
unfoldable pub best_worth : List ℕ → Worth
best_worth cards = greatest_of (map worth_of_five (choices 5 cards))
