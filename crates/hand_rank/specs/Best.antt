-- The best five of several cards.
use Rattle.std.specs.Prelude.{◌≡◌, ℕ, ◌<◌, ◌≤◌, false, List, ◌∷◌, ◌++◌, length, slice_index}
use Rattle.std.specs.List.Sorted.{IsPermutation}
use Rattle.std.specs.Ordering.{is_gt}
use Rattle.hand_rank.specs.Worth.{Worth, worth_cmp}
use Rattle.hand_rank.specs.Five.{worth_of_five}

-- these five and some others are the cards, in some order
pub record IsFiveOf (cards five : List ℕ) : Type 0 where
  pub count : length five ≡ 5
  pub others : List ℕ
  pub together : IsPermutation (five ++ others) cards

-- some five of the cards have this worth
pub record IsReached (cards : List ℕ) (worth : Worth) : Type 0 where
  pub five : List ℕ
  pub chosen : IsFiveOf cards five
  pub worth_it : worth_of_five five ≡ worth

-- the worth of the best five: some five have it, and no five have a greater one
pub record IsBestOf (cards : List ℕ) (worth : Worth) : Type 0 where
  pub reached : IsReached cards worth
  pub greatest : (five : List ℕ) → IsFiveOf cards five → is_gt (worth_cmp (worth_of_five five) worth) ≡ false

-- no five that leave out the card at this place are worth more
abbrev pub IsAtLeastWithout : List ℕ → Worth → ℕ → Type 0
IsAtLeastWithout cards worth place =
    (rest five : List ℕ) → IsPermutation (slice_index cards place ∷ rest) cards → IsFiveOf rest five → is_gt (worth_cmp (worth_of_five five) worth) ≡ false

-- the best of the fives that leave out one of the cards from one place up to another
pub record IsBestLeavingOut (cards : List ℕ) (from upto : ℕ) (worth : Worth) : Type 0 where
  pub reached : IsReached cards worth
  pub greatest : (place : ℕ) → place < upto → from ≤ place → IsAtLeastWithout cards worth place
