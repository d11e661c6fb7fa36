-- Choices of cards: each is a part of the cards, and each part is one of them in some order.
use Rattle.std.proofs.Common.{◌≡◌, ℕ, List, [], ◌∷◌, ◌++◌, length, map, eqb, zero, suc, refl, sym, ap, subst, arith, inl, inr, ◌⊎◌}
use Rattle.std.specs.List.{sum_by}
use Rattle.std.proofs.lemmas.Bool.{cases_eq, eq-eqb, cond-true}
use Rattle.std.proofs.lemmas.List.Sums.{sum_by-cons, sum_by-append}
use Rattle.hand_rank.proofs.Permutations.{one_if_same}
pub use Rattle.hand_rank.proofs.Picks.{IsIn}
use Rattle.match_log.specs.BestFive.{choices}

-- how often a number comes
abbrev pub times : ℕ → List ℕ → ℕ
times k xs = sum_by (one_if_same k) xs

-- each number comes as often in both
abbrev pub SameCounts : List ℕ → List ℕ → Type 0
SameCounts xs ys = (k : ℕ) → times k xs ≡ times k ys

pub in_left : {X : Type 0} (x : X) (xs ys : List X) → IsIn x xs → IsIn x (xs ++ ys)
in_left x [] ys h = absurd h
in_left x (y ∷ xs) ys (inl same) = inl same
in_left x (y ∷ xs) ys (inr later) = inr (in_left x xs ys later)

pub in_right : {X : Type 0} (x : X) (xs ys : List X) → IsIn x ys → IsIn x (xs ++ ys)
in_right x [] ys h = h
in_right x (y ∷ xs) ys h = inr (in_right x xs ys h)

pub in_map : {X Y : Type 0} (f : X → Y) (x : X) (xs : List X) → IsIn x xs → IsIn (f x) (map f xs)
in_map f x [] h = absurd h
in_map f x (y ∷ xs) (inl same) = inl (ap f same)
in_map f x (y ∷ xs) (inr later) = inr (in_map f x xs later)

pub in_either : {X : Type 0} (x : X) (xs ys : List X) → IsIn x (xs ++ ys) → IsIn x xs ⊎ IsIn x ys
in_either x [] ys h = inr h
in_either x (y ∷ xs) ys (inl same) = inl (inl same)
in_either x (y ∷ xs) ys (inr later) = elim (in_either x xs ys later) [ inl h ↦ inl (inr h) | inr h ↦ inr h ]

pub in_map_from : {X Y : Type 0} (f : X → Y) (y : Y) (xs : List X) → IsIn y (map f xs) → (x : X) × (IsIn x xs × (y ≡ f x))
in_map_from f y [] h = absurd h
in_map_from f y (x ∷ xs) (inl same) = (x, (inl refl, same))
in_map_from f y (x ∷ xs) (inr later) = let found = in_map_from f y xs later in (found.0, (inr found.1.0, found.1.1))

one_of_itself : (x : ℕ) → one_if_same x x ≡ 1
one_of_itself x = cond-true (eqb x x) 1 0 (eq-eqb x x refl)

-- ---- a list with one of its elements in front

-- the list has x, and these besides
abbrev pub IsWith : ℕ → List ℕ → Type 0
IsWith x ys = (rest : List ℕ) × (SameCounts ys (x ∷ rest) × (length ys ≡ suc (length rest)))

with_cons : (x y : ℕ) (ys rest : List ℕ) → SameCounts ys (x ∷ rest) → SameCounts (y ∷ ys) (x ∷ (y ∷ rest))
with_cons x y ys rest same = λ k.
    omega (arith, same k, sum_by-cons (one_if_same k) y ys, sum_by-cons (one_if_same k) x rest, sum_by-cons (one_if_same k) x (y ∷ rest), sum_by-cons (one_if_same k) y rest)

with_first : (x y : ℕ) (ys : List ℕ) → y ≡ x → IsWith x (y ∷ ys)
with_first x y ys same = (ys, ((λ k. ap (λ (z : ℕ). times k (z ∷ ys)) same), refl))

with_later : (x y : ℕ) (ys : List ℕ) → IsWith x ys → IsWith x (y ∷ ys)
with_later x y ys found = (y ∷ found.0, (with_cons x y ys found.0 found.1.0, ap suc found.1.1))

with_by : (x y : ℕ) (ys : List ℕ) → (y ≡ x) ⊎ (y ≡ x → ⊥) → IsWith x ys ⊎ (times x ys ≡ 0) → IsWith x (y ∷ ys) ⊎ (times x (y ∷ ys) ≡ 0)
with_by x y ys (inl same) later = inl (with_first x y ys same)
with_by x y ys (inr differ) (inl found) = inl (with_later x y ys found)
with_by x y ys (inr differ) (inr none) =
    let not_this : ◌≡◌ {A = ℕ} (one_if_same x y) 0 = Rattle.std.proofs.lemmas.Bool.cond-false (eqb y x) 1 0 (Rattle.std.proofs.lemmas.Bool.ne_eqb y x differ) in
    inr (omega (arith, none, not_this, sum_by-cons (one_if_same x) y ys))

pub with_or_without : (x : ℕ) (ys : List ℕ) → IsWith x ys ⊎ (times x ys ≡ 0)
with_or_without x [] = inr refl
with_or_without x (y ∷ ys) = with_by x y ys (cases_eq y x) (with_or_without x ys)

-- ---- each choice is a part

-- these and some others are the cards
abbrev pub IsPart : ℕ → List ℕ → List ℕ → Type 0
IsPart count part cards = (length part ≡ count) × ((others : List ℕ) × SameCounts (part ++ others) cards)

part_with : (count x : ℕ) (part cards : List ℕ) → IsPart count part cards → IsPart (suc count) (x ∷ part) (x ∷ cards)
part_with count x part cards (len, (others, same)) =
    (ap suc len, (others, λ k. omega (arith, same k, sum_by-cons (one_if_same k) x (part ++ others), sum_by-cons (one_if_same k) x cards)))

part_without : (count x : ℕ) (part cards : List ℕ) → IsPart count part cards → IsPart count part (x ∷ cards)
part_without count x part cards (len, (others, same)) =
    (len, (x ∷ others, λ k. omega (arith, same k, sum_by-append (one_if_same k) part (x ∷ others), sum_by-append (one_if_same k) part others, sum_by-cons (one_if_same k) x others, sum_by-cons (one_if_same k) x cards)))

pub choice_is_part : (count : ℕ) (cards part : List ℕ) → IsIn part (choices count cards) → IsPart count part cards
unfolding choices
choice_is_part zero cards part (inl none) = subst (λ p. IsPart zero p cards) (sym none) (refl, (cards, λ k. refl))
choice_is_part zero cards part (inr h) = absurd h
choice_is_part (suc count) [] part h = absurd h
choice_is_part (suc count) (card ∷ cards) part h =
    elim (in_either part (map (λ others. card ∷ others) (choices count cards)) (choices (suc count) cards) h) [
      | inl with_first ↦
          let found = in_map_from (λ others. card ∷ others) part (choices count cards) with_first in
          subst (λ p. IsPart (suc count) p (card ∷ cards)) (sym found.1.1) (part_with count card found.0 cards (choice_is_part count cards found.0 found.1.0))
      | inr without ↦ part_without (suc count) card part cards (choice_is_part (suc count) cards part without)
    ]

-- ---- each part is one of the choices, in some order

-- one of the choices has the part's cards
abbrev pub IsChosen : List ℕ → List ℕ → Type 0
IsChosen part cards = (choice : List ℕ) × (IsIn choice (choices (length part) cards) × SameCounts part choice)

chosen_with : (x : ℕ) (part rest cards : List ℕ) → SameCounts part (x ∷ rest) → length part ≡ suc (length rest) → IsChosen rest cards → IsChosen part (x ∷ cards)
unfolding choices
chosen_with x part rest cards same len (choice, (chosen, as_rest)) = (
  x ∷ choice,
  (
    subst (λ n. IsIn (x ∷ choice) (choices n (x ∷ cards))) (sym len)
        (in_left (x ∷ choice) (map (λ others. x ∷ others) (choices (length rest) cards)) (choices (suc (length rest)) cards) (in_map (λ others. x ∷ others) choice (choices (length rest) cards) chosen)),
    λ k. omega (arith, same k, as_rest k, sum_by-cons (one_if_same k) x rest, sum_by-cons (one_if_same k) x choice),
  ),
)

chosen_without : (x : ℕ) (part cards : List ℕ) → IsChosen part cards → IsChosen part (x ∷ cards)
unfolding choices
chosen_without x [] cards chosen = ([], (inl refl, λ k. refl))
chosen_without x (first ∷ part) cards (choice, (chosen, as_part)) =
    (choice, (in_right choice (map (λ others. x ∷ others) (choices (length part) cards)) (choices (suc (length part)) cards) chosen, as_part))

chosen_from_none : (part others : List ℕ) → SameCounts (part ++ others) [] → IsChosen part []
unfolding choices
chosen_from_none [] others same = ([], (inl refl, λ k. refl))
chosen_from_none (x ∷ part) others same = absurd (omega (arith, same x, one_of_itself x, sum_by-cons (one_if_same x) x (part ++ others)))

pub part_is_chosen : (cards part others : List ℕ) → SameCounts (part ++ others) cards → IsChosen part cards
part_is_chosen [] part others same = chosen_from_none part others same
part_is_chosen (x ∷ cards) part others same =
    elim (with_or_without x part) [
      | inl (rest, (as_part, len)) ↦
          chosen_with x part rest cards as_part len
          (part_is_chosen cards rest others (λ k.
          omega (arith, same k, as_part k, sum_by-append (one_if_same k) part others, sum_by-append (one_if_same k) rest others, sum_by-cons (one_if_same k) x rest, sum_by-cons (one_if_same k) x cards)))
      | inr none ↦
          elim (with_or_without x others) [
            | inl (rest, (as_others, len)) ↦
                chosen_without x part cards
                (part_is_chosen cards part rest (λ k.
                omega (arith, same k, as_others k, sum_by-append (one_if_same k) part others, sum_by-append (one_if_same k) part rest, sum_by-cons (one_if_same k) x rest, sum_by-cons (one_if_same k) x cards)))
            | inr none_else ↦
                absurd (omega (arith, same x, none, none_else, one_of_itself x, sum_by-append (one_if_same x) part others, sum_by-cons (one_if_same x) x cards))
          ]
    ]
