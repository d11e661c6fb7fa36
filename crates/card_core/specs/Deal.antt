-- A deal: distinct cards at named places, two for each position and then five for the board.
use Rattle.std.specs.Prelude.{◌≡◌, ℕ, ◌+◌, ◌-◌, ◌*◌, ◌/◌, ◌<◌, List, length, take, drop, nat_eq}
use Rattle.std.specs.List.{IsDistinct, AllByRecursion}

-- what n players, two to ten, can be dealt
pub record IsDeal (players : ℕ) (cards : List ℕ) : Type 0 where
  pub count : length cards ≡ 2 * players + 5
  pub cards_of_the_pack : AllByRecursion (λ card. card < 52) cards
  pub distinct : IsDistinct nat_eq cards

-- for how many players a deal is: half of what is left without the board
abbrev pub player_count : List ℕ → ℕ
player_count cards = (length cards - 5) / 2

-- the two hole cards of a position
abbrev pub hole_of : List ℕ → ℕ → List ℕ
hole_of cards position = take 2 (drop (2 * position) cards)

-- the five board cards: flop, turn, river
abbrev pub board_of : List ℕ → List ℕ
board_of cards = drop (length cards - 5) cards
