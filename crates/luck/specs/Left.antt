-- The cards that may still come.
use Rattle.std.specs.Prelude.{ℕ, not, nat_eq, List}
use Rattle.std.specs.List.{filter, list_any, range_with_len}

-- the cards of the pack that aren't among these, in order of their numbers
unfoldable pub left_of : List ℕ → List ℕ
left_of known = filter (λ card. not (list_any (λ other. nat_eq card other) known)) (range_with_len 0 52)
