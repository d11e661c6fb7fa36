-- The cards that a line shows, as they are kept.
use Rattle.std.specs.Prelude.{◌≡◌, ℕ, zero, suc, ◌<◌, length, Bool, false, slice_index_or, List, [], ◌∷◌, ◌++◌, map, take, Option, unwrap_or}
use Rattle.std.specs.Option.{option_to_list}
use Rattle.std.specs.List.{AllByRecursion}
use Rattle.matchstate.specs.Cards.{all_cards, seen_counts}
use Rattle.matchstate.specs.declared.seen_cards.SeenCards.{SeenCards}

-- the two cards of a position, none where they aren't seen
abbrev pub hole_in : Option (List ℕ) → List ℕ
hole_in hole = unwrap_or hole []

-- those of so many positions
abbrev pub first_holes : ℕ → List (Option (List ℕ)) → List (List ℕ)
first_holes players holes = map hole_in (take players holes)

-- and of what a line shows
abbrev pub holes_in : ℕ → SeenCards → List (List ℕ)
holes_in players seen = first_holes players seen.holes

abbrev pub boards_in : SeenCards → List (List ℕ)
boards_in seen = option_to_list seen.flop ++ (option_to_list seen.turn ++ option_to_list seen.river)

-- a position is among those that are seen
abbrev pub seen_at : List Bool → ℕ → Bool
seen_at sees position = slice_index_or sees position false

-- what stands before the hole cards of a position: | but for the first
abbrev pub separator : ℕ → List ℕ
separator zero = []
separator (suc position) = 124 ∷ []

-- cards of the pack at just the places that are seen; one may stand there twice
pub record AreCounted (players : ℕ) (sees : ℕ → Bool) (rounds : ℕ) (holes boards : List (List ℕ)) : Type 0 where
  pub hole_counts : map length holes ≡ seen_counts players sees
  pub board_counts : map length boards ≡ take rounds (3 ∷ 1 ∷ 1 ∷ [])
  pub pack : AllByRecursion (λ card. card < 52) (all_cards holes boards)
