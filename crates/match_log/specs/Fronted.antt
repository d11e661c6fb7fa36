-- A text with something in front of each of its lines, as logs are printed among other lines.
use Rattle.std.specs.Prelude.{ℕ, ◌==◌, Bool, List, [], ◌∷◌, ◌++◌, if◌then◌else◌}

-- a text with this in front of each of its lines; whether the first byte begins a line
abbrev pub fronted : List ℕ → Bool → List ℕ → List ℕ
fronted front begins [] = []
fronted front begins (byte ∷ rest) = (if begins then front else []) ++ byte ∷ fronted front (byte == 10) rest
