-- The cards field of a line: the hole cards by position, then the board cards of each later round reached.
use Rattle.std.specs.Prelude.{◌≡◌, ℕ, ◌<◌, nat_eq, Bool, List, [], ◌∷◌, ◌++◌, map, take, drop, length, if◌then◌else◌}
use Rattle.std.specs.List.{flat_map, concat, join_by, range_with_len, AllByRecursion, IsDistinct}
use Rattle.card_core.specs.Card.{text_of}
use Rattle.card_core.specs.Deal.{IsDeal, hole_of, board_of}

-- cards one after another, as in TdAs
abbrev pub cards_text : List ℕ → List ℕ
cards_text cards = flat_map text_of cards

-- the hole cards of the positions with | between them, an unseen hand being empty
abbrev pub holes_text : List (List ℕ) → List ℕ
holes_text holes = join_by cards_text (124 ∷ []) holes

-- / and its cards for each later round reached
abbrev pub board_text : List (List ℕ) → List ℕ
board_text boards = flat_map (λ cards. 47 ∷ cards_text cards) boards

-- the hole cards by position, then the board
abbrev pub cards_field : List (List ℕ) → List (List ℕ) → List ℕ
cards_field holes boards = holes_text holes ++ board_text boards

-- for each position two cards where it is seen, else none
abbrev pub seen_counts : ℕ → (ℕ → Bool) → List ℕ
seen_counts players sees = map (λ position. if sees position then 2 else 0) (range_with_len 0 players)

-- all cards of these groups are cards of the pack
abbrev pub AreOfPack : List (List ℕ) → Type 0
AreOfPack groups = AllByRecursion (λ card. card < 52) (concat groups)

-- the hole cards of each position that is seen, none of the others
abbrev pub holes_seen : ℕ → (ℕ → Bool) → List ℕ → List (List ℕ)
holes_seen players sees deal = map (λ position. if sees position then hole_of deal position else []) (range_with_len 0 players)

-- the board cards of the later rounds: flop, turn, river
abbrev pub boards_of : List ℕ → List (List ℕ)
boards_of deal = take 3 (board_of deal) ∷ take 1 (drop 3 (board_of deal)) ∷ drop 4 (board_of deal) ∷ []

-- the hole cards of all positions
abbrev pub holes_of : ℕ → List ℕ → List (List ℕ)
holes_of players deal = map (hole_of deal) (range_with_len 0 players)

-- the board cards of so many later rounds
abbrev pub board_shown : ℕ → List ℕ → List (List ℕ)
board_shown rounds deal = take rounds (boards_of deal)

-- the text of all hole cards of a deal and the board of so many later rounds
abbrev pub shown_text : ℕ → ℕ → List ℕ → List ℕ
shown_text players rounds deal = cards_field (holes_of players deal) (board_shown rounds deal)

-- a deal's text, with all its cards
abbrev pub deal_text : ℕ → List ℕ → List ℕ
deal_text players deal = cards_field (holes_of players deal) (boards_of deal)

-- the hole cards of the positions that are seen and the board of so many later rounds, of this deal
pub record AreSeenOf (players : ℕ) (sees : ℕ → Bool) (rounds : ℕ) (holes boards : List (List ℕ)) (deal : List ℕ) : Type 0 where
  pub dealt : IsDeal players deal
  pub hole_cards : holes ≡ holes_seen players sees deal
  pub board_cards : boards ≡ board_shown rounds deal

-- the cards are what is seen of some deal
abbrev pub AreSeen : ℕ → (ℕ → Bool) → ℕ → List (List ℕ) → List (List ℕ) → Type 0
AreSeen players sees rounds holes boards = (deal : List ℕ) × AreSeenOf players sees rounds holes boards deal

-- all cards of a line, in its order
abbrev pub all_cards : List (List ℕ) → List (List ℕ) → List ℕ
all_cards holes boards = concat holes ++ concat boards

-- two cards for each position that is seen and none for the others, three, one and one for the rounds
-- reached, and no card twice: just these cards are seen of some deal
pub record AreInPlace (players : ℕ) (sees : ℕ → Bool) (rounds : ℕ) (holes boards : List (List ℕ)) : Type 0 where
  pub hole_counts : map length holes ≡ seen_counts players sees
  pub board_counts : map length boards ≡ take rounds (3 ∷ 1 ∷ 1 ∷ [])
  pub pack : AllByRecursion (λ card. card < 52) (all_cards holes boards)
  pub distinct : IsDistinct nat_eq (all_cards holes boards)
