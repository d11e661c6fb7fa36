-- The deals that a hand may come to, by what is known of it.
use Rattle.std.specs.Prelude.{ℕ, ◌+◌, ◌-◌, ◌*◌, List, ◌++◌, map, take, length}
use Rattle.matchstate.specs.Laws.{board_count}
use Rattle.match_log.specs.BestFive.{choices}
use Rattle.luck.specs.Left.{left_of}

-- the cards known once a street is dealt (0 before the flop): the hole cards of all players, also of those who have folded, and the board so far
abbrev pub known_at : ℕ → List ℕ → ℕ → List ℕ
known_at players deal street = take (2 * players + board_count street) deal

-- all deals that begin with the known cards, one for each choice of the cards that are missing
unfoldable pub completions : ℕ → List ℕ → List (List ℕ)
completions players known = map (λ more. known ++ more) (choices (2 * players + 5 - length known) (left_of known))
