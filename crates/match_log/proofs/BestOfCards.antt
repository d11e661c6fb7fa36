-- The best worth of the choices is the best of all fives.
use Rattle.std.proofs.Common.{◌≡◌, ℕ, false, List, [], ◌∷◌, ◌++◌, map, refl, sym, subst, inl, inr, ◌⊎◌}
use Rattle.std.specs.List.{fold}
use Rattle.std.specs.List.Sorted.{IsPermutation}
use Rattle.std.specs.Ordering.{is_gt, is_lt, ord_max}
use Rattle.std.proofs.lemmas.Bool.{cond_both}
use Rattle.std.proofs.lemmas.Cmp.{upto}
use Rattle.std.proofs.lemmas.List.Sorted.{IsPermutation-refl, sum_by-IsPermutation}
use Rattle.hand_rank.specs.Best.{IsFiveOf, IsReached, IsBestOf}
use Rattle.hand_rank.specs.Five.{worth_of_five}
use Rattle.hand_rank.specs.Worth.{Worth, worth_cmp}
use Rattle.hand_rank.proofs.Permutations.{one_if_same, permutation_from_counts}
use Rattle.hand_rank.proofs.Greatest.{worth_total, not_above_itself, max_left, max_right, worth_of_five-permutation, best_is_one}
use Rattle.match_log.specs.BestFive.{choices, greatest_of, best_worth}
use Rattle.match_log.proofs.Choices.{IsIn, IsPart, IsChosen, SameCounts, in_map, in_map_from, choice_is_part, part_is_chosen}

-- ---- the greatest of a list is in it, and none is above it

pub greatest_in : (first : Worth) (others : List Worth) → IsIn (fold (ord_max worth_cmp) first others) (first ∷ others)
greatest_in first [] = inl refl
greatest_in first (second ∷ others) =
    elim (greatest_in (ord_max worth_cmp first second) others) [
      | inl same ↦
          let P : Worth → Type 0 = λ w. (w ≡ first) ⊎ ((w ≡ second) ⊎ IsIn w others) in
          subst P (sym same) (cond_both (is_lt (worth_cmp second first)) first second P (λ _. inl refl) (λ _. inr (inl refl)))
      | inr later ↦ inr (inr later)
    ]

above_start : (first : Worth) (others : List Worth) → is_gt (worth_cmp first (fold (ord_max worth_cmp) first others)) ≡ false
above_start first [] = not_above_itself first
above_start first (second ∷ others) =
    upto worth_total first (ord_max worth_cmp first second) (fold (ord_max worth_cmp) (ord_max worth_cmp first second) others) (max_left first second) (above_start (ord_max worth_cmp first second) others)

above_later : (w first : Worth) (others : List Worth) → IsIn w others → is_gt (worth_cmp w (fold (ord_max worth_cmp) first others)) ≡ false
above_later w first [] h = absurd h
above_later w first (second ∷ others) (inl same) =
    upto worth_total w (ord_max worth_cmp first second) (fold (ord_max worth_cmp) (ord_max worth_cmp first second) others)
    (subst (λ v. is_gt (worth_cmp v (ord_max worth_cmp first second)) ≡ false) (sym same) (max_right first second))
    (above_start (ord_max worth_cmp first second) others)
above_later w first (second ∷ others) (inr later) = above_later w (ord_max worth_cmp first second) others later

pub none_above : (w : Worth) (worths : List Worth) → IsIn w worths → is_gt (worth_cmp w (greatest_of worths)) ≡ false
unfolding greatest_of
none_above w [] h = absurd h
none_above w (first ∷ others) (inl same) =
    subst (λ v. is_gt (worth_cmp v (fold (ord_max worth_cmp) first others)) ≡ false) (sym same) (above_start first others)
none_above w (first ∷ others) (inr later) = above_later w first others later

pub greatest_reached : (worths : List Worth) (some : Worth) → IsIn some worths → IsIn (greatest_of worths) worths
unfolding greatest_of
greatest_reached [] some h = absurd h
greatest_reached (first ∷ others) some h = greatest_in first others

-- ---- the best five

counts_of_moved : (xs ys : List ℕ) → IsPermutation xs ys → SameCounts xs ys
counts_of_moved xs ys moved = λ k. sym (sum_by-IsPermutation (one_if_same k) xs ys moved)

-- any five are worth no more than the best choice
five_not_above : (cards five : List ℕ) → IsFiveOf cards five → is_gt (worth_cmp (worth_of_five five) (best_worth cards)) ≡ false
unfolding best_worth
five_not_above cards five chosen =
    let found : IsChosen five cards = part_is_chosen cards five chosen.others (counts_of_moved (five ++ chosen.others) cards chosen.together) in
    let choice : List ℕ = found.0 in
    let counted : IsIn choice (choices 5 cards) = subst (λ n. IsIn choice (choices n cards)) chosen.count found.1.0 in
    let same_worth : worth_of_five choice ≡ worth_of_five five = worth_of_five-permutation five choice (permutation_from_counts five choice found.1.1) in
    let P : Worth → Type 0 = λ w. is_gt (worth_cmp w (greatest_of (map worth_of_five (choices 5 cards)))) ≡ false in
    subst P same_worth (none_above (worth_of_five choice) (map worth_of_five (choices 5 cards)) (in_map worth_of_five choice (choices 5 cards) counted))

reached_from_choice : (cards choice : List ℕ) (worth : Worth) → IsIn choice (choices 5 cards) → worth ≡ worth_of_five choice → IsReached cards worth
reached_from_choice cards choice worth chosen e =
    let part : IsPart 5 choice cards = choice_is_part 5 cards choice chosen in
    let five : IsFiveOf cards choice = record { count = part.0; others = part.1.0; together = permutation_from_counts (choice ++ part.1.0) cards part.1.1 } in
    record { five = choice; chosen = five; worth_it = sym e }

-- some choice has the best worth, where there is a five at all
pub best_worth_reached : (cards five : List ℕ) → IsFiveOf cards five → IsReached cards (best_worth cards)
unfolding best_worth
best_worth_reached cards five some =
    let found : IsChosen five cards = part_is_chosen cards five some.others (counts_of_moved (five ++ some.others) cards some.together) in
    let counted : IsIn found.0 (choices 5 cards) = subst (λ n. IsIn found.0 (choices n cards)) some.count found.1.0 in
    let worths : List Worth = map worth_of_five (choices 5 cards) in
    let best = in_map_from worth_of_five (greatest_of worths) (choices 5 cards) (greatest_reached worths (worth_of_five found.0) (in_map worth_of_five found.0 (choices 5 cards) counted)) in
    reached_from_choice cards best.0 (greatest_of worths) best.1.0 best.1.1

pub best_worth_is_best : (cards five : List ℕ) → IsFiveOf cards five → IsBestOf cards (best_worth cards)
best_worth_is_best cards five some = record { reached = best_worth_reached cards five some; greatest = five_not_above cards }

-- the value of the best five is the greatest worth of all choices
pub best_is_best_worth : (cards : List ℕ) (worth : Worth) → IsBestOf cards worth → worth ≡ best_worth cards
best_is_best_worth cards worth best =
    best_is_one cards cards worth (best_worth cards) (IsPermutation-refl cards) best (best_worth_is_best cards best.reached.five best.reached.chosen)
