-- Cards as the ACPC protocol writes them: a rank's letter, then a suit's.
use Rattle.std.specs.Prelude.{ℕ, ◌/◌, ◌%◌, List, [], ◌∷◌, codes, slice_index}

-- from 0 (two) to 12 (ace): a card's number is 4 * rank + suit
abbrev pub rank_of : ℕ → ℕ
rank_of card = card / 4

-- clubs, diamonds, hearts, spades
abbrev pub suit_of : ℕ → ℕ
suit_of card = card % 4

-- the two as 2, the ten as T, the ace as A
abbrev pub rank_letter : ℕ → ℕ
rank_letter rank = slice_index (codes "23456789TJQKA") rank

-- the first letter of the suit's name
abbrev pub suit_letter : ℕ → ℕ
suit_letter suit = slice_index (codes "cdhs") suit

-- the two letters of a card, as in Td
abbrev pub text_of : ℕ → List ℕ
text_of card = rank_letter (rank_of card) ∷ suit_letter (suit_of card) ∷ []
