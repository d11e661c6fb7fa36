-- Sets of ranks, as the bits of a number: the lowest bit is the two's, the thirteenth the ace's.
use Rattle.std.specs.Prelude.{◌≡◌, ◌≢◌, ℕ, ◌<◌, ◌≤◌, List, [], ◌∷◌}
use Rattle.std.specs.Int.{bit_at}
use Rattle.std.specs.List.{AllByRecursion}
use Rattle.hand_rank.specs.Five.{straight_ranks}

-- the ranks that come at least so often
pub record IsAtLeast (bits size : ℕ) (count : ℕ → ℕ) : Type 0 where
  pub present : (rank : ℕ) → size ≤ count rank → bit_at bits rank ≡ 1
  pub absent : (rank : ℕ) → count rank < size → bit_at bits rank ≡ 0

-- the highest rank of a set
pub record IsHighest (bits top : ℕ) : Type 0 where
  pub present : bit_at bits top ≡ 1
  pub above : (rank : ℕ) → top < rank → bit_at bits rank ≡ 0

-- a set without one rank
pub record IsWithout (bits rank others : ℕ) : Type 0 where
  pub gone : bit_at others rank ≡ 0
  pub kept : (other : ℕ) → other ≢ rank → bit_at others other ≡ bit_at bits other

-- a set has each rank of the straight that goes down from this top
pub record IsRun (bits top : ℕ) : Type 0 where
  pub least : 3 ≤ top
  pub most : top ≤ 12
  pub present : AllByRecursion (λ rank. bit_at bits rank ≡ 1) (straight_ranks top)

-- the highest of such tops
pub record IsHighestRun (bits top : ℕ) : Type 0 where
  pub run : IsRun bits top
  pub greatest : (other : ℕ) → IsRun bits other → other ≤ top

-- the highest rank of a set, the highest of the others, and so on, as long as there are some
abbrev pub AreHighest : ℕ → List ℕ → Type 0
AreHighest bits [] = Unit {0}
AreHighest bits (rank ∷ ranks) = (0 < bits → IsHighest bits rank) × ((others : ℕ) × IsWithout bits rank others × AreHighest others ranks)
