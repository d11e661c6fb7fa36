-- No two ranks have one letter, nor two suits, and so no two cards one text.
use Rattle.std.proofs.Common.{◌≡◌, ◌<◌, ◌+◌, ◌*◌, ◌/◌, ◌%◌, ℕ, true, cond, eqb, List, [], ◌∷◌, get_or, arith, refl, ap, sym, ◌∙◌, codes}
use Rattle.std.proofs.lemmas.Bool.{agree_below_at, eqb-true}
use Rattle.card_core.specs.Card.{rank_of, suit_of, rank_letter, suit_letter, text_of}

abbrev pub place_in : List ℕ → ℕ → ℕ
place_in [] letter = 0
place_in (x ∷ xs) letter = cond (eqb x letter) 0 (place_in xs letter + 1)

rank_place : (rank : ℕ) → rank < 13 → place_in (codes "23456789TJQKA") (rank_letter rank) ≡ rank
rank_place rank h =
    eqb-true _ _ (agree_below_at (λ r. eqb (place_in (codes "23456789TJQKA") (rank_letter r)) r) (λ _. true) 13 rank refl h)

suit_place : (suit : ℕ) → suit < 4 → place_in (codes "cdhs") (suit_letter suit) ≡ suit
suit_place suit h =
    eqb-true _ _ (agree_below_at (λ s. eqb (place_in (codes "cdhs") (suit_letter s)) s) (λ _. true) 4 suit refl h)

pub rank_letter-one : (a b : ℕ) → a < 13 → b < 13 → rank_letter a ≡ rank_letter b → a ≡ b
rank_letter-one a b h k e = sym (rank_place a h) ∙ ap (place_in (codes "23456789TJQKA")) e ∙ rank_place b k

pub suit_letter-one : (a b : ℕ) → a < 4 → b < 4 → suit_letter a ≡ suit_letter b → a ≡ b
suit_letter-one a b h k e = sym (suit_place a h) ∙ ap (place_in (codes "cdhs")) e ∙ suit_place b k

pub text_of-one : (a b : ℕ) → a < 52 → b < 52 → text_of a ≡ text_of b → a ≡ b
text_of-one a b h k e =
    let rank : rank_letter (rank_of a) ≡ rank_letter (rank_of b) = cc in
    let suit : suit_letter (suit_of a) ≡ suit_letter (suit_of b) = cc in
    let r : a / 4 ≡ b / 4 = rank_letter-one (a / 4) (b / 4) (omega arith) (omega arith) rank in
    let s : a % 4 ≡ b % 4 = suit_letter-one (a % 4) (b % 4) (omega arith) (omega arith) suit in
    omega arith

-- a text that is a card's has that card's letters
pub text_of-rank : (text : List ℕ) (card : ℕ) → text ≡ text_of card → rank_letter (rank_of card) ≡ get_or text 0 0
text_of-rank text card e = sym (ap (λ t. get_or t 0 0) e)

pub text_of-suit : (text : List ℕ) (card : ℕ) → text ≡ text_of card → suit_letter (suit_of card) ≡ get_or text 1 0
text_of-suit text card e = sym (ap (λ t. get_or t 1 0) e)

pub text_of-places :
    (text : List ℕ) (card rank suit : ℕ) → card < 52 → rank < 13 → suit < 4 →
    text ≡ text_of card → rank_letter rank ≡ get_or text 0 0 → suit_letter suit ≡ get_or text 1 0 →
    4 * rank + suit ≡ card
text_of-places text card rank suit h r s e a b =
    let same_rank : rank ≡ card / 4 =
    rank_letter-one rank (card / 4) r (omega arith) (a ∙ sym (text_of-rank text card e)) in
    let same_suit : suit ≡ card % 4 =
    suit_letter-one suit (card % 4) s (omega arith) (b ∙ sym (text_of-suit text card e)) in
    omega arith
