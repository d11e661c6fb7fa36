-- The value of five cards, by the categories of poker.
use Rattle.std.specs.Prelude.{ℕ, ◌-◌, Bool, ◌&&◌, ◌==◌, if◌then◌else◌, List, [], ◌∷◌, map, replicate, slice_index, Option, Some, None, is_some}
use Rattle.std.specs.List.{count_by, flat_map, find, list_all, list_any}
use Rattle.card_core.specs.Card.{rank_of, suit_of}
use Rattle.hand_rank.specs.Worth.{Worth}

-- from the two to the ace
abbrev pub ranks_up : List ℕ
ranks_up = 0 ∷ 1 ∷ 2 ∷ 3 ∷ 4 ∷ 5 ∷ 6 ∷ 7 ∷ 8 ∷ 9 ∷ 10 ∷ 11 ∷ 12 ∷ []

-- from the ace to the two
abbrev pub ranks_down : List ℕ
ranks_down = 12 ∷ 11 ∷ 10 ∷ 9 ∷ 8 ∷ 7 ∷ 6 ∷ 5 ∷ 4 ∷ 3 ∷ 2 ∷ 1 ∷ 0 ∷ []

-- how many of the cards have this rank
abbrev pub rank_count : List ℕ → ℕ → ℕ
rank_count cards rank = count_by (λ card. rank_of card == rank) cards

-- how many of the cards have this suit
abbrev pub suit_count : List ℕ → ℕ → ℕ
suit_count cards suit = count_by (λ card. suit_of card == suit) cards

-- how often each rank comes, from the two to the ace
unfoldable pub counts_of : List ℕ → List ℕ
counts_of cards = map (rank_count cards) ranks_up

-- some suit is that of all five
unfoldable pub is_flush : List ℕ → Bool
is_flush cards = list_any (λ suit. suit_count cards suit == 5) (0 ∷ 1 ∷ 2 ∷ 3 ∷ [])

-- a straight goes down from its top; below the two stands the ace
abbrev pub straight_ranks : ℕ → List ℕ
straight_ranks top = top ∷ (top - 1) ∷ (top - 2) ∷ (top - 3) ∷ (if top == 3 then 12 else top - 4) ∷ []

-- each rank of that straight comes once
abbrev pub is_straight_from : List ℕ → ℕ → Bool
is_straight_from counts top = list_all (λ rank. slice_index counts rank == 1) (straight_ranks top)

-- the top of the straight that the cards are: the ace down to the five
unfoldable pub straight_top : List ℕ → Option ℕ
straight_top counts = find (is_straight_from counts) (12 ∷ 11 ∷ 10 ∷ 9 ∷ 8 ∷ 7 ∷ 6 ∷ 5 ∷ 4 ∷ 3 ∷ [])

-- how many ranks come exactly so often
unfoldable pub groups_of : ℕ → List ℕ → ℕ
groups_of size counts = count_by (λ count. count == size) counts

-- the first of these that the cards are: straight flush, four of a kind, full house, flush, straight, three of a kind, two pairs, pair, high card
unfoldable pub category_of : Bool → Bool → List ℕ → ℕ
category_of flush straight counts =
    if flush && straight then 8
    else (if groups_of 4 counts == 1 then 7
    else (if groups_of 3 counts == 1 && groups_of 2 counts == 1 then 6
    else (if flush then 5
    else (if straight then 4
    else (if groups_of 3 counts == 1 then 3
    else (if groups_of 2 counts == 2 then 2
    else (if groups_of 2 counts == 1 then 1
    else 0)))))))

-- a rank as often as it comes, where it comes exactly so often
abbrev pub copies_of : List ℕ → ℕ → ℕ → List ℕ
copies_of counts size rank = if slice_index counts rank == size then replicate size rank else []

-- the ranks that come exactly so often, from the ace down, each as often as it comes
unfoldable pub ranks_coming : List ℕ → ℕ → List ℕ
ranks_coming counts size = flat_map (copies_of counts size) ranks_down

-- the ranks in order of count, then height
unfoldable pub by_count_then_height : List ℕ → List ℕ
by_count_then_height counts = flat_map (ranks_coming counts) (5 ∷ 4 ∷ 3 ∷ 2 ∷ 1 ∷ [])

-- of a straight its top alone, of other hands all five ranks
unfoldable pub deciding_ranks : Option ℕ → List ℕ → List ℕ
deciding_ranks (Some top) counts = top ∷ 0 ∷ 0 ∷ 0 ∷ 0 ∷ []
deciding_ranks None counts = by_count_then_height counts

-- what five cards are worth, suits breaking no tie
unfoldable pub worth_of_five : List ℕ → Worth
worth_of_five cards =
    let counts = counts_of cards in
    let top = straight_top counts in
    record { category = category_of (is_flush cards) (is_some top) counts; ranks = deciding_ranks top counts }
