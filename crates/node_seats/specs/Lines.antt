-- A line as it goes to a bot.
use Rattle.std.specs.Prelude.{ℕ, List, [], ◌∷◌, ◌++◌}

-- with CR LF behind it
abbrev pub line_of : List ℕ → List ℕ
line_of line = line ++ 13 ∷ 10 ∷ []
