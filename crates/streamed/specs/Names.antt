-- The script line that names the seats: `names `, and a name for each seat with | between them.
use Rattle.std.specs.Prelude.{◌≡◌, ℕ, ◌==◌, List, ◌++◌, codes}
use Rattle.std.specs.List.{slice_split}
use Rattle.match_log.specs.Names.{AreNames}
use Rattle.match_log.specs.Lines.{names_field}

-- a line that names the seats of so many players
pub record IsNamesLine (players : ℕ) (names : List (List ℕ)) (line : List ℕ) : Type 0 where
  pub are_names : AreNames players names
  pub form : line ≡ codes "names " ++ names_field names

-- the pieces of a text between its |
abbrev pub pieces : List ℕ → List (List ℕ)
pieces text = slice_split (λ byte. byte == 124) text
