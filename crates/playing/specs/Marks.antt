-- Which frames were delivered.
use Rattle.std.specs.Prelude.{◌≡◌, ℕ, ◌<◌, Bool, true, false, List, Some, slice_get}

-- by number of frame, whether it was delivered: all before this number were
abbrev pub AreDelivered : List Bool → ℕ → Type 0
AreDelivered delivered count = (number : ℕ) → number < count → slice_get delivered number ≡ Some true

-- the frame of least number that was never delivered
pub record IsFirstMissing (delivered : List Bool) (number : ℕ) : Type 0 where
  pub missing : slice_get delivered number ≡ Some false
  pub before : AreDelivered delivered number
