-- The file of the key that the processes of a match share.
use Rattle.std.specs.Prelude.{ℕ, ◌==◌, if◌then◌else◌, Result, List, [], ◌∷◌}
use Rattle.hex.specs.Hex.{decode_sized}
use Rattle.hex.specs.declared.error.FromHexError.{FromHexError}

-- a text but for a line feed at its end
abbrev pub without_feed : List ℕ → List ℕ
without_feed [] = []
without_feed (last ∷ []) = if last == 10 then [] else last ∷ []
without_feed (byte ∷ next ∷ more) = byte ∷ without_feed (next ∷ more)

-- the 32 bytes that a text says by 64 digits, behind which one line feed may stand
abbrev pub keyed : List ℕ → Result (List ℕ) FromHexError
keyed text = decode_sized (without_feed text) 32
