-- What a byte queue holds.
use Rattle.std.specs.Prelude.{ℕ, List}

-- the bytes that came and weren't taken yet, and how many more may come without taking memory
pub record Queued : Type 0 where
  pub waiting : List ℕ
  pub room : ℕ
