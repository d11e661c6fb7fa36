-- What a hand is worth, and which of two hands is worth more.
use Rattle.std.specs.Prelude.{ℕ, List}
use Rattle.std.specs.Ordering.{nat_cmp, on, then_cmp}
use Rattle.std.specs.declared.cmp.Ordering.{Ordering}
use Rattle.std.specs.Cmp.Lexicographic.{slice_cmp}

-- a category from 0 (high card) to 8 (straight flush), and the ranks that decide within it
pub record Worth : Type 0 where
  pub category : ℕ
  pub ranks : List ℕ

-- the category decides, and then the ranks one after another
abbrev pub worth_cmp : Worth → Worth → Ordering
worth_cmp = then_cmp (on (λ worth. worth.category) nat_cmp) (on (λ worth. worth.ranks) (slice_cmp nat_cmp))
