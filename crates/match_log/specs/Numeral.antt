-- Whole numbers as a line may say them, however long.
use Rattle.std.specs.Prelude.{◌≡◌, ◌≢◌, ℕ, ◌≤◌, ◌⊎◌, true, List, ◌∷◌, length, slice_index, codes}
use Rattle.std.specs.Char.{is_ascii_digit}
use Rattle.std.specs.List.{AllByRecursion}

-- a decimal: digits, and no 0 in front of others
pub record IsDecimal (text : List ℕ) : Type 0 where
  pub digits : AllByRecursion (λ byte. is_ascii_digit byte ≡ true) text
  pub some : 1 ≤ length text
  pub plain : slice_index text 0 ≡ 48 → length text ≡ 1

-- a whole number below 0: a minus sign and a decimal that isn't 0
pub record IsNegative (text : List ℕ) : Type 0 where
  pub digits : List ℕ
  pub decimal : IsDecimal digits
  pub some : digits ≢ codes "0"
  pub whole : text ≡ 45 ∷ digits

-- a whole number
abbrev pub IsWhole : List ℕ → Type 0
IsWhole text = IsDecimal text ⊎ IsNegative text
