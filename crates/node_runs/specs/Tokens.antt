-- What a match file has of the tokens of seats.
use Rattle.std.specs.Prelude.{ℕ, List, [], ◌∷◌, ◌++◌, codes}
use Rattle.std.specs.List.{join_by}
use Rattle.hex.specs.Hex.{encode_lower}

-- a digest as TOML's text of its digits
abbrev pub quoted : List ℕ → List ℕ
quoted digest = 34 ∷ encode_lower digest ++ 34 ∷ []

-- the entry of all
abbrev pub tokens_line : List (List ℕ) → List ℕ
tokens_line digests = codes "tokens = [" ++ join_by quoted (codes ", ") digests ++ codes "]" ++ 10 ∷ []
