-- The line by which a client names the protocol's version, the first that it sends.
use Rattle.std.specs.Prelude.{◌≡◌, ℕ, ◌≤◌, List, ◌++◌, length, codes}
use Rattle.std.specs.List.{All}
use Rattle.std.specs.Char.{IsAsciiDigit}

-- one to nine digits
pub record IsRevision (text : List ℕ) : Type 0 where
  pub digits : All IsAsciiDigit text
  pub least : 1 ≤ length text
  pub most : length text ≤ 9

-- `VERSION:2.0.` and behind it a revision
abbrev pub IsVersion : List ℕ → Type 0
IsVersion line = (revision : List ℕ) × IsRevision revision × (line ≡ codes "VERSION:2.0." ++ revision)
