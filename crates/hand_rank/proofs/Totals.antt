-- How many cards the ranks have together, and how many cards of a pack there are of a rank or a suit.
use Rattle.std.proofs.Common.{◌≡◌, ◌≢◌, ℕ, zero, suc, ◌+◌, ◌-◌, ◌*◌, ◌/◌, ◌%◌, ◌<◌, ◌≤◌, Bool, true, false, cond, eqb, ◌==◌, ◌&&◌, List, [], ◌∷◌, ◌++◌, length, get_or, nat_eq, inl, inr, ◌⊎◌, refl, sym, ◌∙◌, ap, arith}
use Rattle.std.specs.List.{All, AllByRecursion, IsDistinct, sum_by, count_by, sum}
use Rattle.std.proofs.lemmas.Bool.{cases_eq, cases_lt, cases_Bool, eq-eqb, ne_eqb, eqb-true, cond-true, cond-false, cond_both, and_parts, and_from}
use Rattle.std.proofs.lemmas.List.Sums.{sum_by-cons, sum_by-append, sum_by-le-sum_by}
use Rattle.std.proofs.lemmas.List.Sorted.{sum_by-IsPermutation, length_permutation}
use Rattle.std.proofs.lemmas.List.Elements.{All-head, All-tail}
use Rattle.card_core.specs.Card.{rank_of, suit_of}
use Rattle.hand_rank.specs.Best.{IsFiveOf}
use Rattle.hand_rank.specs.Five.{rank_count, suit_count}
use Rattle.hand_rank.specs.Profile.{suited_count}

-- one, or nothing
abbrev pub one_if : Bool → ℕ
one_if test = cond test 1 0

pub one_if-true : (test : Bool) → test ≡ true → one_if test ≡ 1
one_if-true test passes = cond-true test 1 0 passes

pub one_if-false : (test : Bool) → test ≡ false → one_if test ≡ 0
one_if-false test fails = cond-false test 1 0 fails

pub one_if-le : (test : Bool) → one_if test ≤ 1
one_if-le true = omega arith
one_if-le false = omega arith

pub one_if_same : (a b : ℕ) → a ≡ b → one_if (eqb a b) ≡ 1
one_if_same a b same = one_if-true (eqb a b) (eq-eqb a b same)

pub one_if_other : (a b : ℕ) → a ≢ b → one_if (eqb a b) ≡ 0
one_if_other a b differ = one_if-false (eqb a b) (ne_eqb a b differ)

-- ---- sums over ranks

-- the counts of the ranks below a number together
unfoldable pub sum_below : ℕ → (ℕ → ℕ) → ℕ
sum_below zero count = 0
sum_below (suc n) count = count n + sum_below n count

pub sum_below-same : (n : ℕ) (f g : ℕ → ℕ) → ((rank : ℕ) → rank < n → f rank ≡ g rank) → sum_below n f ≡ sum_below n g
unfolding sum_below
sum_below-same zero f g same = refl
sum_below-same (suc n) f g same =
    let rest : sum_below n f ≡ sum_below n g = sum_below-same n f g (λ rank below. same rank (omega arith)) in
    omega (arith, same n (omega arith))

pub sum_below-add : (n : ℕ) (f g : ℕ → ℕ) → sum_below n (λ rank. f rank + g rank) ≡ sum_below n f + sum_below n g
unfolding sum_below
sum_below-add zero f g = refl
sum_below-add (suc n) f g = omega (arith, sum_below-add n f g)

pub sum_below-none : (n : ℕ) (f : ℕ → ℕ) → ((rank : ℕ) → rank < n → f rank ≡ 0) → sum_below n f ≡ 0
unfolding sum_below
sum_below-none zero f none = refl
sum_below-none (suc n) f none = omega (arith, none n (omega arith), sum_below-none n f (λ rank below. none rank (omega arith)))

pub sum_below-le : (n : ℕ) (f g : ℕ → ℕ) → ((rank : ℕ) → rank < n → f rank ≤ g rank) → sum_below n f ≤ sum_below n g
unfolding sum_below
sum_below-le zero f g upto = omega arith
sum_below-le (suc n) f g upto = omega (arith, upto n (omega arith), sum_below-le n f g (λ rank below. upto rank (omega arith)))

-- one of the ranks and the others
pub sum_below-split : (n rank : ℕ) (f g : ℕ → ℕ) → rank < n → g rank ≡ 0 → ((other : ℕ) → other ≢ rank → g other ≡ f other) → sum_below n f ≡ f rank + sum_below n g
unfolding sum_below
sum_below-split zero rank f g below gone same = absurd (omega arith)
sum_below-split (suc n) rank f g below gone same =
    elim (cases_eq n rank) [
      | inl here ↦
          let rest : sum_below n f ≡ sum_below n g = sum_below-same n f g (λ other low. sym (same other (omega arith))) in
          let top : f n ≡ f rank = ap f here in
          let none : g n ≡ g rank = ap g here in
          omega arith
      | inr there ↦
          let rest : sum_below n f ≡ f rank + sum_below n g = sum_below-split n rank f g (omega arith) gone same in
          omega (arith, same n there)
    ]

sum_below-one : (rank : ℕ) → rank < 13 → sum_below 13 (λ other. one_if (eqb rank other)) ≡ 1
sum_below-one rank below =
    let none : sum_below 13 (λ other. 0) ≡ 0 = sum_below-none 13 (λ other. 0) (λ other low. refl) in
    let here : one_if (eqb rank rank) ≡ 1 = one_if_same rank rank refl in
    omega (arith, sum_below-split 13 rank (λ other. one_if (eqb rank other)) (λ other. 0) below refl (λ other differ. sym (one_if_other rank other (λ (same : rank ≡ other). differ (sym same)))))

-- each card has one of the thirteen ranks
pub total_count : (cards : List ℕ) → All (λ card. rank_of card < 13) cards → sum_below 13 (rank_count cards) ≡ length cards
total_count [] all = sum_below-none 13 (rank_count []) (λ rank low. refl)
total_count (card ∷ cards) all =
    let split : sum_below 13 (rank_count (card ∷ cards)) ≡ sum_below 13 (λ rank. one_if (eqb (rank_of card) rank) + rank_count cards rank) =
    sum_below-same 13 (rank_count (card ∷ cards)) (λ rank. one_if (eqb (rank_of card) rank) + rank_count cards rank) (λ rank low. sum_by-cons (λ other. one_if (rank_of other == rank)) card cards) in
    omega (
      arith,
      split,
      sum_below-add 13 (λ rank. one_if (eqb (rank_of card) rank)) (rank_count cards),
      sum_below-one (rank_of card) (All-head (λ other. rank_of other < 13) card cards all),
      total_count cards (All-tail (λ other. rank_of other < 13) card cards all),
    )

-- ---- five of the cards

-- what is counted among five of the cards is counted among all
pub chosen_sum : (f : ℕ → ℕ) (cards five : List ℕ) → IsFiveOf cards five → sum_by f five ≤ sum_by f cards
chosen_sum f cards five chosen =
    omega (arith, sum_by-IsPermutation f (five ++ chosen.others) cards chosen.together, sum_by-append f five chosen.others)

-- ---- cards of one pack

-- how often one card comes
abbrev pub card_count : List ℕ → ℕ → ℕ
card_count cards card = count_by (λ other. other == card) cards

no_other : (first : ℕ) (cards : List ℕ) → AllByRecursion (λ card. nat_eq first card ≡ false) cards → card_count cards first ≡ 0
no_other first [] differ = refl
no_other first (card ∷ cards) differ =
    let other : card ≢ first = λ (same : card ≡ first). let passes : eqb first card ≡ true = eq-eqb first card (sym same) in absurd (let fails = differ.0 in cc) in
    omega (arith, sum_by-cons (λ x. one_if (x == first)) card cards, one_if_other card first other, no_other first cards differ.1)

-- a card comes at most once
pub card_once : (cards : List ℕ) (card : ℕ) → IsDistinct nat_eq cards → card_count cards card ≤ 1
unfolding IsDistinct
card_once [] card distinct = omega arith
card_once (first ∷ cards) card distinct =
    elim (cases_eq first card) [
      | inl same ↦
          let none : card_count cards card ≡ 0 = ap (card_count cards) (sym same) ∙ no_other first cards distinct.0 in
          omega (arith, none, sum_by-cons (λ x. one_if (x == card)) first cards, one_if_same first card same)
      | inr differ ↦
          omega (arith, card_once cards card distinct.1, sum_by-cons (λ x. one_if (x == card)) first cards, one_if_other first card differ)
    ]

suited_is_card : (suit rank card : ℕ) → suit < 4 → one_if ((suit_of card == suit) && (rank_of card == rank)) ≤ one_if (card == 4 * rank + suit)
suited_is_card suit rank card low =
    elim (cases_Bool ((suit_of card == suit) && (rank_of card == rank))) [
      | inl passes ↦
          let parts = and_parts (suit_of card == suit) (rank_of card == rank) passes in
          let of_suit : suit_of card ≡ suit = eqb-true (suit_of card) suit parts.0 in
          let of_rank : rank_of card ≡ rank = eqb-true (rank_of card) rank parts.1 in
          let same : card ≡ 4 * rank + suit = omega arith in
          omega (arith, one_if_same card (4 * rank + suit) same, one_if-le ((suit_of card == suit) && (rank_of card == rank)))
      | inr fails ↦ omega (arith, one_if-false ((suit_of card == suit) && (rank_of card == rank)) fails)
    ]

-- a suit has each rank at most once
pub suited_once : (cards : List ℕ) (suit rank : ℕ) → IsDistinct nat_eq cards → suit < 4 → suited_count cards suit rank ≤ 1
suited_once cards suit rank distinct low =
    let upto : suited_count cards suit rank ≤ card_count cards (4 * rank + suit) =
    sum_by-le-sum_by (λ card. one_if ((suit_of card == suit) && (rank_of card == rank))) (λ card. one_if (card == 4 * rank + suit)) cards (λ card. suited_is_card suit rank card low) in
    omega (arith, card_once cards (4 * rank + suit) distinct)

one_of_four : (suit : ℕ) → suit < 4 → 1 ≤ one_if (suit == 0) + one_if (suit == 1) + one_if (suit == 2) + one_if (suit == 3)
one_of_four zero low = omega arith
one_of_four (suc zero) low = omega arith
one_of_four (suc (suc zero)) low = omega arith
one_of_four (suc (suc (suc zero))) low = omega arith
one_of_four (suc (suc (suc (suc suit)))) low = absurd (omega arith)

one_and : (a b : Bool) → b ≡ true → one_if (a && b) ≡ one_if a
one_and true b passes = ap one_if passes
one_and false b passes = refl

by_suits : (rank card : ℕ) → one_if (rank_of card == rank) ≤ one_if ((suit_of card == 0) && (rank_of card == rank)) + one_if ((suit_of card == 1) && (rank_of card == rank)) + one_if ((suit_of card == 2) && (rank_of card == rank)) + one_if ((suit_of card == 3) && (rank_of card == rank))
by_suits rank card =
    elim (cases_Bool (rank_of card == rank)) [
      | inl passes ↦
          let low : suit_of card < 4 = omega arith in
          omega (
            arith,
            one_of_four (suit_of card) low,
            one_if-le (rank_of card == rank),
            one_and (suit_of card == 0) (rank_of card == rank) passes,
            one_and (suit_of card == 1) (rank_of card == rank) passes,
            one_and (suit_of card == 2) (rank_of card == rank) passes,
            one_and (suit_of card == 3) (rank_of card == rank) passes,
          )
      | inr fails ↦ omega (arith, one_if-false (rank_of card == rank) fails)
    ]

count_by_suits : (cards : List ℕ) (rank : ℕ) → rank_count cards rank ≤ suited_count cards 0 rank + suited_count cards 1 rank + suited_count cards 2 rank + suited_count cards 3 rank
count_by_suits [] rank = omega arith
count_by_suits (card ∷ cards) rank =
    omega (
      arith,
      by_suits rank card,
      count_by_suits cards rank,
      sum_by-cons (λ other. one_if (rank_of other == rank)) card cards,
      sum_by-cons (λ other. one_if ((suit_of other == 0) && (rank_of other == rank))) card cards,
      sum_by-cons (λ other. one_if ((suit_of other == 1) && (rank_of other == rank))) card cards,
      sum_by-cons (λ other. one_if ((suit_of other == 2) && (rank_of other == rank))) card cards,
      sum_by-cons (λ other. one_if ((suit_of other == 3) && (rank_of other == rank))) card cards,
    )

-- a rank comes at most four times
pub at_most_four : (cards : List ℕ) (rank : ℕ) → IsDistinct nat_eq cards → rank_count cards rank ≤ 4
at_most_four cards rank distinct =
    omega (
      arith,
      count_by_suits cards rank,
      suited_once cards 0 rank distinct (omega arith),
      suited_once cards 1 rank distinct (omega arith),
      suited_once cards 2 rank distinct (omega arith),
      suited_once cards 3 rank distinct (omega arith),
    )

-- ---- suits

one_suit : (card suit other : ℕ) → suit ≢ other → one_if (suit_of card == suit) + one_if (suit_of card == other) ≤ 1
one_suit card suit other differ =
    elim (cases_eq (suit_of card) suit) [
      | inl same ↦ omega (arith, one_if_other (suit_of card) other (λ (also : suit_of card ≡ other). differ (sym same ∙ also)), one_if-le (suit_of card == suit))
      | inr none ↦ omega (arith, one_if_other (suit_of card) suit none, one_if-le (suit_of card == other))
    ]

-- two suits have at most all cards
pub two_suits : (cards : List ℕ) (suit other : ℕ) → suit ≢ other → suit_count cards suit + suit_count cards other ≤ length cards
two_suits [] suit other differ = omega arith
two_suits (card ∷ cards) suit other differ =
    omega (arith, one_suit card suit other differ, two_suits cards suit other differ, sum_by-cons (λ x. one_if (suit_of x == suit)) card cards, sum_by-cons (λ x. one_if (suit_of x == other)) card cards)

both_or_less : (card suit rank : ℕ) → one_if (rank_of card == rank) + one_if (suit_of card == suit) ≤ one_if ((suit_of card == suit) && (rank_of card == rank)) + 1
both_or_less card suit rank =
    elim (cases_Bool (rank_of card == rank)) [
      | inl passes ↦ omega (arith, one_and (suit_of card == suit) (rank_of card == rank) passes, one_if-le (rank_of card == rank))
      | inr fails ↦ omega (arith, one_if-false (rank_of card == rank) fails, one_if-le (suit_of card == suit))
    ]

-- where all cards are of one suit, their ranks are ranks of it
pub suited_ranks : (cards : List ℕ) (suit rank : ℕ) → rank_count cards rank + suit_count cards suit ≤ suited_count cards suit rank + length cards
suited_ranks [] suit rank = omega arith
suited_ranks (card ∷ cards) suit rank =
    omega (
      arith,
      both_or_less card suit rank,
      suited_ranks cards suit rank,
      sum_by-cons (λ other. one_if (rank_of other == rank)) card cards,
      sum_by-cons (λ other. one_if (suit_of other == suit)) card cards,
      sum_by-cons (λ other. one_if ((suit_of other == suit) && (rank_of other == rank))) card cards,
    )

one_suited : (suit card : ℕ) → rank_of card < 13 → sum_below 13 (λ rank. one_if ((suit_of card == suit) && (rank_of card == rank))) ≡ one_if (suit_of card == suit)
one_suited suit card low =
    elim (cases_Bool (suit_of card == suit)) [
      | inl passes ↦
          let same : sum_below 13 (λ rank. one_if ((suit_of card == suit) && (rank_of card == rank))) ≡ sum_below 13 (λ rank. one_if (eqb (rank_of card) rank)) =
          ap (λ (b : Bool). sum_below 13 (λ rank. one_if (b && (rank_of card == rank)))) passes in
          omega (arith, same, sum_below-one (rank_of card) low, one_if-true (suit_of card == suit) passes)
      | inr fails ↦
          let same : sum_below 13 (λ rank. one_if ((suit_of card == suit) && (rank_of card == rank))) ≡ sum_below 13 (λ rank. 0) =
          ap (λ (b : Bool). sum_below 13 (λ rank. one_if (b && (rank_of card == rank)))) fails in
          omega (arith, same, sum_below-none 13 (λ rank. 0) (λ rank below. refl), one_if-false (suit_of card == suit) fails)
    ]

-- the cards of a suit by their ranks
pub total_suited : (cards : List ℕ) (suit : ℕ) → All (λ card. rank_of card < 13) cards → sum_below 13 (suited_count cards suit) ≡ suit_count cards suit
total_suited [] suit all = sum_below-none 13 (suited_count [] suit) (λ rank low. refl)
total_suited (card ∷ cards) suit all =
    let split : sum_below 13 (suited_count (card ∷ cards) suit) ≡ sum_below 13 (λ rank. one_if ((suit_of card == suit) && (rank_of card == rank)) + suited_count cards suit rank) =
    sum_below-same 13 (suited_count (card ∷ cards) suit) (λ rank. one_if ((suit_of card == suit) && (rank_of card == rank)) + suited_count cards suit rank) (λ rank low. sum_by-cons (λ other. one_if ((suit_of other == suit) && (rank_of other == rank))) card cards) in
    omega (
      arith,
      split,
      sum_below-add 13 (λ rank. one_if ((suit_of card == suit) && (rank_of card == rank))) (suited_count cards suit),
      one_suited suit card (All-head (λ other. rank_of other < 13) card cards all),
      total_suited cards suit (All-tail (λ other. rank_of other < 13) card cards all),
      sum_by-cons (λ other. one_if (suit_of other == suit)) card cards,
    )

-- no card has a rank past the ace
pub none_past : (cards : List ℕ) (rank : ℕ) → 13 ≤ rank → All (λ card. rank_of card < 13) cards → rank_count cards rank ≡ 0
none_past [] rank past all = refl
none_past (card ∷ cards) rank past all =
    let low : rank_of card < 13 = All-head (λ other. rank_of other < 13) card cards all in
    let differ : rank_of card ≢ rank = λ (same : rank_of card ≡ rank). absurd (omega arith) in
    omega (arith, sum_by-cons (λ other. one_if (rank_of other == rank)) card cards, one_if_other (rank_of card) rank differ, none_past cards rank past (All-tail (λ other. rank_of other < 13) card cards all))

-- the cards of a suit are cards
pub suited_le : (cards : List ℕ) (suit rank : ℕ) → suited_count cards suit rank ≤ rank_count cards rank
suited_le cards suit rank =
    sum_by-le-sum_by (λ card. one_if ((suit_of card == suit) && (rank_of card == rank))) (λ card. one_if (rank_of card == rank)) cards (λ card. one_of_both (suit_of card == suit) (rank_of card == rank))
  where
    one_of_both : (a b : Bool) → one_if (a && b) ≤ one_if b
    one_of_both true b = omega arith
    one_of_both false b = omega arith
