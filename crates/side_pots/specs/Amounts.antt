-- The unfolded players' amounts, between which the eligible players don't change.
use Rattle.std.specs.Prelude.{◌≡◌, ℕ, ◌-◌, ◌<◌, ◌≤◌, Bool, true, false, List, min, Option, Some, None, slice_index, slice_index_or}
use Rattle.std.specs.List.{sum_by}

-- an unfolded player put in exactly so much
pub record IsAmount (spent : List ℕ) (folded : List Bool) (amount : ℕ) : Type 0 where
  pub owner : ℕ
  pub unfolded : slice_index_or folded owner true ≡ false
  pub exactly : slice_index spent owner ≡ amount

-- the least amount above another
pub record IsNextAmount (spent : List ℕ) (folded : List Bool) (below amount : ℕ) : Type 0 where
  pub above : below < amount
  pub amount_of_one : IsAmount spent folded amount
  pub least :
      (position : ℕ) → slice_index_or folded position true ≡ false → below < slice_index spent position
      → amount ≤ slice_index spent position

-- no unfolded player put in more
abbrev pub IsLastAmount : List ℕ → List Bool → ℕ → Type 0
IsLastAmount spent folded amount =
    (position : ℕ) → slice_index_or folded position true ≡ false → slice_index spent position ≤ amount

-- the lesser of what was found before and another amount
abbrev pub lesser : Option ℕ → ℕ → ℕ
lesser None amount = amount
lesser (Some found) amount = min found amount

-- the chips of all players above one amount, up to another
abbrev pub chips_between : List ℕ → ℕ → ℕ → ℕ
chips_between spent below top = sum_by (λ amount. min amount top - min amount below) spent
