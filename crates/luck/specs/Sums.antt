-- Running sums over deals.
use Rattle.std.specs.Prelude.{◌≡◌, ℕ, ◌+◌, ◌<◌, pos, ◌+ℤ◌, Bool, List, length, slice_index_or}
use Rattle.luck.specs.Means.{paid}
use Rattle.luck.specs.declared.sums.Sums.{Sums}

-- what some deals pay was added, to each position's amount
pub record AddsPaid (spent : List ℕ) (folded : List Bool) (deals : List (List ℕ)) (old new : Sums) : Type 0 where
  pub count : new.deals ≡ old.deals + length deals
  pub each : (position : ℕ) → position < 10 → slice_index_or new.amounts position (pos 0) ≡ slice_index_or old.amounts position (pos 0) +ℤ paid spent folded position deals

-- each position's amount is what it is paid over some deals, and these are as many
pub record IsSumOver (spent : List ℕ) (folded : List Bool) (deals : List (List ℕ)) (sums : Sums) : Type 0 where
  pub count : sums.deals ≡ length deals
  pub each : (position : ℕ) → position < 10 → slice_index_or sums.amounts position (pos 0) ≡ paid spent folded position deals
