-- The best five so far, as one card after another is left out.
use Rattle.std.proofs.Common.{◌≡◌, ◌≢◌, ◌==◌, map, ℕ, ◌+◌, ◌<◌, ◌≤◌, Bool, List, [], ◌∷◌, ◌++◌, length, get_or, set, take, drop, ◌-◌, cond, true, false, refl, sym, ◌∙◌, ap, subst, below_more, arith, inl, inr, ◌⊎◌, length-append}
use Rattle.std.specs.Cmp.{IsTotalOrder}
use Rattle.std.specs.Cmp.Lexicographic.{slice_cmp}
use Rattle.std.specs.List.{Contains, list_any, swap_remove}
use Rattle.std.specs.List.Sorted.{IsPermutation}
use Rattle.std.specs.Ordering.{is_gt, is_lt, ord_max, nat_cmp, ordering_then, ordering_reverse, MatchOrdering}
use Rattle.std.specs.Option.{is_some}
use Rattle.std.specs.declared.cmp.Ordering.{Ordering}
use Rattle.std.specs.declared.cmp.Ordering.TheVariants.{Less, Equal, Greater}
use Rattle.std.proofs.lemmas.Bool.{cond-true, cond-false, cases_Bool, cond_both, cases_lt}
use Rattle.std.proofs.lemmas.Cmp.{then_total, on_total, nat_cmp_total, nat_list_cmp_total, upto, tied_itself, ranked}
use Rattle.std.proofs.lemmas.List.{get_or-take, get_or-set_other, length-set, length-take-le, set-append_left, take-append-drop, take-set, take_at, append-nil, get_or_default, nil_from_length}
use Rattle.std.proofs.lemmas.List.Sorted.{IsPermutation-refl, IsPermutation-sym, IsPermutation-trans, IsPermutation-cons, IsPermutation-middle, IsPermutation-to_front, IsPermutation-swap_remove, Contains-permutation, length_permutation, sum_by-IsPermutation}
use Rattle.card_core.specs.Card.{rank_of, suit_of}
use Rattle.hand_rank.specs.Best.{IsFiveOf, IsReached, IsBestOf, IsAtLeastWithout, IsBestLeavingOut}
use Rattle.hand_rank.specs.Five.{worth_of_five, counts_of, is_flush, rank_count, suit_count, ranks_up, category_of, straight_top, deciding_ranks}
use Rattle.hand_rank.specs.Worth.{Worth, worth_cmp}
use Rattle.hand_rank.proofs.Permutations.{permutation_without}

-- ---- the order of worths

pub worth_total : IsTotalOrder worth_cmp
worth_total = then_total (on_total (λ (w : Worth). w.category) nat_cmp_total) (on_total (λ (w : Worth). w.ranks) nat_list_cmp_total)

gt-reverse : (o : Ordering) → is_gt (ordering_reverse o) ≡ is_lt o
gt-reverse Less = refl
gt-reverse Equal = refl
gt-reverse Greater = refl

not_both : (o : Ordering) → is_lt o ≡ true → is_gt o ≡ false
not_both Less e = refl
not_both Equal e = refl
not_both Greater e = absurd (cc)

pub not_above_itself : (w : Worth) → is_gt (worth_cmp w w) ≡ false
not_above_itself w = ap is_gt (tied_itself worth_total w)

-- neither is above the greater of two
pub max_left : (a b : Worth) → is_gt (worth_cmp a (ord_max worth_cmp a b)) ≡ false
max_left a b = max_left_by a b (cases_Bool (is_lt (worth_cmp b a)))
  where
    max_left_by : (a b : Worth) → (is_lt (worth_cmp b a) ≡ true) ⊎ (is_lt (worth_cmp b a) ≡ false) → is_gt (worth_cmp a (ord_max worth_cmp a b)) ≡ false
    max_left_by a b (inl less) = ap (λ (w : Worth). is_gt (worth_cmp a w)) (cond-true (is_lt (worth_cmp b a)) a b less) ∙ not_above_itself a
    max_left_by a b (inr not_less) = ap (λ (w : Worth). is_gt (worth_cmp a w)) (cond-false (is_lt (worth_cmp b a)) a b not_less) ∙ (ap is_gt (worth_total.antisymm a b) ∙ (gt-reverse (worth_cmp b a) ∙ not_less))

pub max_right : (a b : Worth) → is_gt (worth_cmp b (ord_max worth_cmp a b)) ≡ false
max_right a b = max_right_by a b (cases_Bool (is_lt (worth_cmp b a)))
  where
    max_right_by : (a b : Worth) → (is_lt (worth_cmp b a) ≡ true) ⊎ (is_lt (worth_cmp b a) ≡ false) → is_gt (worth_cmp b (ord_max worth_cmp a b)) ≡ false
    max_right_by a b (inl less) = ap (λ (w : Worth). is_gt (worth_cmp b w)) (cond-true (is_lt (worth_cmp b a)) a b less) ∙ not_both (worth_cmp b a) less
    max_right_by a b (inr not_less) = ap (λ (w : Worth). is_gt (worth_cmp b w)) (cond-false (is_lt (worth_cmp b a)) a b not_less) ∙ not_above_itself b

-- ---- the worth of five in any order

pub rank_count-permutation : (xs ys : List ℕ) → IsPermutation xs ys → rank_count ys ≡ rank_count xs
rank_count-permutation xs ys moved = λ i k. sum_by-IsPermutation (λ card. cond (rank_of card == k) 1 0) xs ys moved i

pub suit_count-permutation : (xs ys : List ℕ) → IsPermutation xs ys → suit_count ys ≡ suit_count xs
suit_count-permutation xs ys moved = λ i k. sum_by-IsPermutation (λ card. cond (suit_of card == k) 1 0) xs ys moved i

counts_of-permutation : (xs ys : List ℕ) → IsPermutation xs ys → counts_of ys ≡ counts_of xs
unfolding counts_of
counts_of-permutation xs ys moved = ap (λ (f : ℕ → ℕ). map f ranks_up) (rank_count-permutation xs ys moved)

is_flush-permutation : (xs ys : List ℕ) → IsPermutation xs ys → is_flush ys ≡ is_flush xs
unfolding is_flush
is_flush-permutation xs ys moved = ap (λ (f : ℕ → ℕ). list_any (λ suit. f suit == 5) (0 ∷ 1 ∷ 2 ∷ 3 ∷ [])) (suit_count-permutation xs ys moved)

pub worth_of_five-permutation : (xs ys : List ℕ) → IsPermutation xs ys → worth_of_five ys ≡ worth_of_five xs
unfolding worth_of_five
worth_of_five-permutation xs ys moved =
    ap (λ (c : List ℕ). let w : Worth = record { category = category_of (is_flush ys) (is_some (straight_top c)) c; ranks = deciding_ranks (straight_top c) c } in w) (counts_of-permutation xs ys moved)
    ∙ ap (λ (f : Bool). let w : Worth = record { category = category_of f (is_some (straight_top (counts_of xs))) (counts_of xs); ranks = deciding_ranks (straight_top (counts_of xs)) (counts_of xs) } in w) (is_flush-permutation xs ys moved)

-- ---- the best so far

fives_move : (xs ys five : List ℕ) → IsPermutation xs ys → IsFiveOf xs five → IsFiveOf ys five
fives_move xs ys five moved chosen = record { count = chosen.count; others = chosen.others; together = IsPermutation-trans (five ++ chosen.others) xs ys chosen.together moved }

-- what the fewer cards reach, all reach
reached_by_more : (cards kept : List ℕ) (x : ℕ) (worth : Worth) → IsPermutation (x ∷ kept) cards → IsReached kept worth → IsReached cards worth
reached_by_more cards kept x worth moved reached =
    let five : List ℕ = reached.five in
    let others : List ℕ = reached.chosen.others in
    record {
      five = five;
      chosen = record {
        count = reached.chosen.count;
        others = x ∷ others;
        together =
            IsPermutation-trans (five ++ x ∷ others) (x ∷ (five ++ others)) cards (IsPermutation-middle five x others)
            (IsPermutation-trans (x ∷ (five ++ others)) (x ∷ kept) cards (IsPermutation-cons x (five ++ others) kept reached.chosen.together) moved);
      };
      worth_it = reached.worth_it;
    }

least_from_best : (cards kept : List ℕ) (k : ℕ) (worth best : Worth) → IsPermutation (get_or cards k 0 ∷ kept) cards → IsBestOf kept worth → is_gt (worth_cmp worth best) ≡ false → IsAtLeastWithout cards best k
least_from_best cards kept k worth best moved is_best above =
    λ rest five back chosen.
    let x : ℕ = get_or cards k 0 in
    let same : IsPermutation rest kept =
    permutation_without x rest kept (IsPermutation-trans (x ∷ rest) cards (x ∷ kept) back (IsPermutation-sym (x ∷ kept) cards moved)) in
    upto worth_total (worth_of_five five) worth best (is_best.greatest five (fives_move rest kept five same chosen)) above

least_kept : (cards : List ℕ) (best better : Worth) (k : ℕ) → is_gt (worth_cmp best better) ≡ false → IsAtLeastWithout cards best k → IsAtLeastWithout cards better k
least_kept cards best better k above least =
    λ rest five back chosen. upto worth_total (worth_of_five five) best better (least rest five back chosen) above

reached_by_max : (cards : List ℕ) (a b : Worth) → IsReached cards a → IsReached cards b → IsReached cards (ord_max worth_cmp a b)
reached_by_max cards a b by_a by_b =
    cond_both (is_lt (worth_cmp b a)) a b (IsReached cards) (λ _. by_a) (λ _. by_b)

-- one place alone
pub best_of_one : (cards kept : List ℕ) (k : ℕ) (worth : Worth) → IsPermutation (get_or cards k 0 ∷ kept) cards → IsBestOf kept worth → IsBestLeavingOut cards k (k + 1) worth
best_of_one cards kept k worth moved is_best = record {
  reached = reached_by_more cards kept (get_or cards k 0) worth moved is_best.reached;
  greatest = λ place below from.
      let same : k ≡ place = omega arith in
      let P : ℕ → Type 0 = λ n. IsAtLeastWithout cards worth n in
      subst P same (least_from_best cards kept k worth worth moved is_best (not_above_itself worth));
}

-- one place more
best_more : (cards : List ℕ) (from n : ℕ) (best worth : Worth) → IsReached cards worth → IsAtLeastWithout cards (ord_max worth_cmp best worth) n → IsBestLeavingOut cards from n best → IsBestLeavingOut cards from (n + 1) (ord_max worth_cmp best worth)
best_more cards from n best worth reached here so_far = record {
  reached = reached_by_max cards best worth so_far.reached reached;
  greatest = below_more (λ k. from ≤ k → IsAtLeastWithout cards (ord_max worth_cmp best worth) k) n
      (λ k below after. least_kept cards best (ord_max worth_cmp best worth) k (max_left best worth) (so_far.greatest k below after))
      (λ _. here);
}

pub best_with_more : (cards kept : List ℕ) (from n : ℕ) (best worth better : Worth) → better ≡ ord_max worth_cmp best worth → IsPermutation (get_or cards n 0 ∷ kept) cards → IsBestOf kept worth → IsBestLeavingOut cards from n best → IsBestLeavingOut cards from (n + 1) better
best_with_more cards kept from n best worth better e moved is_best so_far =
    let P : Worth → Type 0 = λ w. IsBestLeavingOut cards from (n + 1) w in
    subst P (sym e)
    (best_more cards from n best worth
    (reached_by_more cards kept (get_or cards n 0) worth moved is_best.reached)
    (least_from_best cards kept n worth (ord_max worth_cmp best worth) moved is_best (max_right best worth))
    so_far)

-- ---- two cards left out, the second of them at the same place or a later one

-- what is true of an earlier place and this one together, the earlier place says
earlier_left_out : (cards five : List ℕ) (n q b : ℕ) (best : Worth) → length five ≡ 5 → get_or cards q 0 ≡ b → IsPermutation (get_or cards n 0 ∷ (b ∷ five)) cards → IsAtLeastWithout cards best q → is_gt (worth_cmp (worth_of_five five) best) ≡ false
earlier_left_out cards five n q b best count here both least =
    let x : ℕ = get_or cards n 0 in
    let turned : IsPermutation (b ∷ (x ∷ five)) cards =
    IsPermutation-trans (b ∷ (x ∷ five)) (x ∷ (b ∷ five)) cards (IsPermutation-middle (b ∷ []) x five) both in
    let P : ℕ → Type 0 = λ y. IsPermutation (y ∷ (x ∷ five)) cards in
    least (x ∷ five) five (subst P (sym here) turned) (record { count = count; others = x ∷ []; together = IsPermutation-to_front five x })

five_of_itself : (five : List ℕ) → length five ≡ 5 → IsFiveOf five five
five_of_itself five count =
    let P : List ℕ → Type 0 = λ xs. IsPermutation xs five in
    record { count = count; others = []; together = subst P (sym (append-nil five)) (IsPermutation-refl five) }

pair_left_out : (cards kept rest five others : List ℕ) (n : ℕ) (best : Worth) → length kept ≡ 6 → IsPermutation rest kept → IsPermutation (get_or cards n 0 ∷ rest) cards → ((j : ℕ) → j < n → get_or kept j 0 ≡ get_or cards j 0) → ((q : ℕ) → q < n → IsAtLeastWithout cards best q) → ((q : ℕ) → q < 6 → n ≤ q → IsAtLeastWithout kept best q) → length five ≡ 5 → IsPermutation (five ++ others) rest → is_gt (worth_cmp (worth_of_five five) best) ≡ false
pair_left_out cards kept rest five (b ∷ []) n best six same back front earlier later count together =
    let x : ℕ = get_or cards n 0 in
    let ahead : IsPermutation (b ∷ five) rest =
    IsPermutation-trans (b ∷ five) (five ++ b ∷ []) rest (IsPermutation-sym (five ++ b ∷ []) (b ∷ five) (IsPermutation-to_front five b)) together in
    let moved : IsPermutation (b ∷ five) kept = IsPermutation-trans (b ∷ five) rest kept ahead same in
    let place : Contains kept b = Contains-permutation (b ∷ five) kept b moved (0, omega arith, refl) in
    let here : get_or kept place.0 0 ≡ b = get_or_default kept place.0 0 b place.1 ∙ place.2 in
    elim (cases_lt place.0 n) [
      | inl before ↦
          earlier_left_out cards five n place.0 b best count (sym (front place.0 before) ∙ here)
          (IsPermutation-trans (x ∷ (b ∷ five)) (x ∷ rest) cards (IsPermutation-cons x (b ∷ five) rest ahead) back) (earlier place.0 before)
      | inr after ↦
          let P : ℕ → Type 0 = λ y. IsPermutation (y ∷ five) kept in
          later place.0 (omega (arith, place.1, six)) after five five (subst P (sym here) moved) (five_of_itself five count)
    ]
pair_left_out cards kept rest five [] n best six same back front earlier later count together =
    absurd (omega (arith, six, count, length_permutation rest kept same, length_permutation (five ++ []) rest together, length-append five []))
pair_left_out cards kept rest five (b ∷ (d ∷ others)) n best six same back front earlier later count together =
    absurd (omega (arith, six, count, length_permutation rest kept same, length_permutation (five ++ b ∷ (d ∷ others)) rest together, length-append five (b ∷ (d ∷ others))))

-- where the earlier places are done with, the later ones are enough
two_left_out : (cards kept : List ℕ) (n : ℕ) (best : Worth) → length kept ≡ 6 → IsPermutation (get_or cards n 0 ∷ kept) cards → ((j : ℕ) → j < n → get_or kept j 0 ≡ get_or cards j 0) → ((q : ℕ) → q < n → IsAtLeastWithout cards best q) → ((q : ℕ) → q < 6 → n ≤ q → IsAtLeastWithout kept best q) → IsAtLeastWithout cards best n
two_left_out cards kept n best six moved front earlier later =
    λ rest five back chosen.
    let x : ℕ = get_or cards n 0 in
    let same : IsPermutation rest kept =
    permutation_without x rest kept (IsPermutation-trans (x ∷ rest) cards (x ∷ kept) back (IsPermutation-sym (x ∷ kept) cards moved)) in
    pair_left_out cards kept rest five chosen.others n best six same back front earlier later chosen.count chosen.together

pub best_of_seven_first : (cards kept : List ℕ) (worth : Worth) → length kept ≡ 6 → IsPermutation (get_or cards 0 0 ∷ kept) cards → IsBestLeavingOut kept 0 6 worth → IsBestLeavingOut cards 0 1 worth
best_of_seven_first cards kept worth six moved is_best = record {
  reached = reached_by_more cards kept (get_or cards 0 0) worth moved is_best.reached;
  greatest = λ place below from.
      let first : 0 ≡ place = omega arith in
      let P : ℕ → Type 0 = λ n. IsAtLeastWithout cards worth n in
      subst P first (two_left_out cards kept 0 worth six moved (λ j below_none. absurd (omega arith)) (λ q below_none. absurd (omega arith)) is_best.greatest);
}

pub best_of_seven_more : (cards kept : List ℕ) (n : ℕ) (best worth better : Worth) → length kept ≡ 6 → better ≡ ord_max worth_cmp best worth → IsPermutation (get_or cards n 0 ∷ kept) cards → ((j : ℕ) → j < n → get_or kept j 0 ≡ get_or cards j 0) → IsBestLeavingOut kept n 6 worth → IsBestLeavingOut cards 0 n best → IsBestLeavingOut cards 0 (n + 1) better
best_of_seven_more cards kept n best worth better six e moved front is_best so_far =
    let most : Worth = ord_max worth_cmp best worth in
    let P : Worth → Type 0 = λ w. IsBestLeavingOut cards 0 (n + 1) w in
    subst P (sym e)
    (best_more cards 0 n best worth
    (reached_by_more cards kept (get_or cards n 0) worth moved is_best.reached)
    (two_left_out cards kept n most six moved front
    (λ q below. least_kept cards best most q (max_left best worth) (so_far.greatest q below (omega arith)))
    (λ q below after. least_kept kept worth most q (max_right best worth) (is_best.greatest q below after)))
    so_far)

-- each five leave out one of the cards
greatest_of_all : (cards : List ℕ) (best : Worth) (five others : List ℕ) → 5 < length cards → length five ≡ 5 → IsPermutation (five ++ others) cards → ((place : ℕ) → place < length cards → IsAtLeastWithout cards best place) → is_gt (worth_cmp (worth_of_five five) best) ≡ false
greatest_of_all cards best five [] more count together least =
    absurd (omega (arith, length_permutation (five ++ []) cards together, length-append five []))
greatest_of_all cards best five (x ∷ others) more count together least =
    let moved : IsPermutation (x ∷ (five ++ others)) cards =
    IsPermutation-trans (x ∷ (five ++ others)) (five ++ x ∷ others) cards (IsPermutation-sym (five ++ x ∷ others) (x ∷ (five ++ others)) (IsPermutation-middle five x others)) together in
    let place : Contains cards x = Contains-permutation (x ∷ (five ++ others)) cards x moved (0, omega arith, refl) in
    let here : get_or cards place.0 0 ≡ x = get_or_default cards place.0 0 x place.1 ∙ place.2 in
    let P : ℕ → Type 0 = λ y. IsPermutation (y ∷ (five ++ others)) cards in
    least place.0 place.1 (five ++ others) five (subst P (sym here) moved)
    (record { count = count; others = others; together = IsPermutation-refl (five ++ others) })

-- of five cards there is one five
same_five : (cards five : List ℕ) → length cards ≡ 5 → IsFiveOf cards five → IsPermutation five cards
same_five cards five five_cards chosen =
    let none : chosen.others ≡ [] =
    nil_from_length chosen.others (omega (arith, chosen.count, length_permutation (five ++ chosen.others) cards chosen.together, length-append five chosen.others)) in
    let whole : five ++ chosen.others ≡ five = ap (λ (xs : List ℕ). five ++ xs) none ∙ append-nil five in
    let P : List ℕ → Type 0 = λ xs. IsPermutation xs cards in
    subst P whole chosen.together

pub best_of_five : (cards : List ℕ) → length cards ≡ 5 → IsBestOf cards (worth_of_five cards)
best_of_five cards five_cards =
    let P : List ℕ → Type 0 = λ xs. IsPermutation xs cards in
    record {
      reached = record {
        five = cards;
        chosen = record { count = five_cards; others = []; together = subst P (sym (append-nil cards)) (IsPermutation-refl cards) };
        worth_it = refl;
      };
      greatest = λ five chosen.
          ap (λ (w : Worth). is_gt (worth_cmp (worth_of_five five) w)) (worth_of_five-permutation five cards (same_five cards five five_cards chosen))
          ∙ not_above_itself (worth_of_five five);
    }

-- what six or seven cards are worth, from all of them left out in turn
pub best_from_worth : (cards : List ℕ) (worth : Worth) → length cards ≡ 5 → worth ≡ worth_of_five cards → IsBestOf cards worth
best_from_worth cards worth five_cards e =
    let P : Worth → Type 0 = λ w. IsBestOf cards w in
    subst P (sym e) (best_of_five cards five_cards)

-- ---- one best worth, in whatever order the cards stand

then_equal : (first second : Ordering) → ordering_then first second ≡ Equal → (first ≡ Equal) × (second ≡ Equal)
then_equal Less second e = absurd (cc)
then_equal Equal second e = (refl, e)
then_equal Greater second e = absurd (cc)

at_equal : (o : Ordering) (P Q R : Type 0) → MatchOrdering o P Q R → o ≡ Equal → Q
at_equal Less P Q R h e = absurd (cc)
at_equal Equal P Q R h e = h
at_equal Greater P Q R h e = absurd (cc)

nat_cmp-equal : (x y : ℕ) → nat_cmp x y ≡ Equal → x ≡ y
nat_cmp-equal x y e = at_equal (nat_cmp x y) (x < y) (x ≡ y) (y < x) (ranked x y (nat_cmp x y) refl) e

slice_cmp-equal : (xs ys : List ℕ) → slice_cmp nat_cmp xs ys ≡ Equal → xs ≡ ys
slice_cmp-equal [] [] e = refl
slice_cmp-equal [] (y ∷ ys) e = absurd (cc)
slice_cmp-equal (x ∷ xs) [] e = absurd (cc)
slice_cmp-equal (x ∷ xs) (y ∷ ys) e =
    let both : (nat_cmp x y ≡ Equal) × (slice_cmp nat_cmp xs ys ≡ Equal) = then_equal (nat_cmp x y) (slice_cmp nat_cmp xs ys) e in
    let firsts : x ≡ y = nat_cmp-equal x y both.0 in
    let rests : xs ≡ ys = slice_cmp-equal xs ys both.1 in
    cc

worth_cmp-equal : (v w : Worth) → worth_cmp v w ≡ Equal → v ≡ w
worth_cmp-equal v w e =
    let both : (nat_cmp v.category w.category ≡ Equal) × (slice_cmp nat_cmp v.ranks w.ranks ≡ Equal) = then_equal (nat_cmp v.category w.category) (slice_cmp nat_cmp v.ranks w.ranks) e in
    ap (λ (c : ℕ). let worth : Worth = record { category = c; ranks = v.ranks } in worth) (nat_cmp-equal v.category w.category both.0)
    ∙ ap (λ (r : List ℕ). let worth : Worth = record { category = w.category; ranks = r } in worth) (slice_cmp-equal v.ranks w.ranks both.1)

neither_above : (o : Ordering) → is_gt o ≡ false → is_gt (ordering_reverse o) ≡ false → o ≡ Equal
neither_above Less e f = absurd (cc)
neither_above Equal e f = refl
neither_above Greater e f = absurd (cc)

not_above_best : (cards others : List ℕ) (one other : Worth) → IsPermutation cards others → IsReached cards one → IsBestOf others other → is_gt (worth_cmp one other) ≡ false
not_above_best cards others one other moved reached is_best =
    ap (λ (w : Worth). is_gt (worth_cmp w other)) (sym reached.worth_it)
    ∙ is_best.greatest reached.five (fives_move cards others reached.five moved reached.chosen)

pub best_is_one : (cards reordered : List ℕ) (one other : Worth) → IsPermutation cards reordered → IsBestOf cards one → IsBestOf reordered other → one ≡ other
best_is_one cards reordered one other moved best_one best_other =
    worth_cmp-equal one other
    (neither_above (worth_cmp one other)
    (not_above_best cards reordered one other moved best_one.reached best_other)
    (ap is_gt (sym (worth_total.antisymm other one)) ∙ not_above_best reordered cards other one (IsPermutation-sym cards reordered moved) best_other.reached best_one))

-- ---- one card left out, the last one in its place

set-take : (n : ℕ) (xs : List ℕ) (k y : ℕ) → k < n → n ≤ length xs → set (take n xs) k y ≡ take n (set xs k y)
set-take n xs k y below long =
    let front : length (take n xs) ≡ n = length-take-le n xs long in
    let here : k < length (take n xs) = omega (arith, front) in
    let after : length (set (take n xs) k y) ≡ n = length-set (take n xs) k y ∙ front in
    sym (ap (λ (zs : List ℕ). take n (set zs k y)) (sym (take-append-drop n xs))
    ∙ (ap (take n) (set-append_left (take n xs) (drop n xs) k y here)
    ∙ take_at (set (take n xs) k y) (drop n xs) n after))

swapped_out : (cards : List ℕ) (n k last : ℕ) → length cards ≡ n + 1 → k ≤ n → last ≡ get_or cards n last → IsPermutation (get_or cards k 0 ∷ take n (set cards k last)) cards
swapped_out cards n k last count place read =
    let x : ℕ = get_or cards k 0 in
    let within : k < length cards = omega (arith, count) in
    let own : x ≡ get_or cards k x = get_or_default cards k 0 x within in
    let end_at : length cards - 1 ≡ n = omega (arith, count) in
    let end_within : n < length cards = omega (arith, count) in
    let same : get_or cards (length cards - 1) x ≡ last = ap (λ (i : ℕ). get_or cards i x) end_at ∙ (get_or_default cards n x last end_within ∙ sym read) in
    let rest : swap_remove cards k x ≡ take n (set cards k last) =
    ap (λ (i : ℕ). take i (set cards k (get_or cards (length cards - 1) x))) end_at
    ∙ ap (λ (y : ℕ). take n (set cards k y)) same in
    let P : List ℕ → Type 0 = λ ys. IsPermutation (x ∷ ys) cards in
    subst P rest (IsPermutation-sym cards (x ∷ swap_remove cards k x) (IsPermutation-swap_remove cards k x within own))

pub left_out_below : (cards kept : List ℕ) (n k last : ℕ) → length cards ≡ n + 1 → k < n → last ≡ get_or cards n last → kept ≡ take n cards → IsPermutation (get_or cards k 0 ∷ set kept k last) cards
left_out_below cards kept n k last count below read copied =
    let P : List ℕ → Type 0 = λ ys. IsPermutation (get_or cards k 0 ∷ ys) cards in
    let rest : take n (set cards k last) ≡ set kept k last =
    sym (set-take n cards k last below (omega (arith, count))) ∙ ap (λ (zs : List ℕ). set zs k last) (sym copied) in
    subst P rest (swapped_out cards n k last count (omega arith) read)

pub left_out_last : (cards kept : List ℕ) (n k : ℕ) → length cards ≡ n + 1 → n ≤ k → k ≤ n → kept ≡ take n cards → IsPermutation (get_or cards k 0 ∷ kept) cards
left_out_last cards kept n k count past place copied =
    let last : ℕ = get_or cards n 0 in
    let read : last ≡ get_or cards n last = get_or_default cards n 0 last (omega (arith, count)) in
    let P : List ℕ → Type 0 = λ ys. IsPermutation (get_or cards k 0 ∷ ys) cards in
    let same : n ≡ k = omega arith in
    let rest : take n (set cards k last) ≡ kept = ap (λ (i : ℕ). take n (set cards i last)) (sym same) ∙ (take-set cards n last ∙ sym copied) in
    subst P rest (swapped_out cards n k last count place read)

pub length_left_out : (cards kept : List ℕ) (x n : ℕ) → IsPermutation (x ∷ kept) cards → length cards ≡ n + 1 → length kept ≡ n
length_left_out cards kept x n moved count = omega (arith, length_permutation (x ∷ kept) cards moved, count)

pub left_out_front : (cards kept : List ℕ) (n k last : ℕ) → k < n → kept ≡ take n cards → (j : ℕ) → j < k → get_or (set kept k last) j 0 ≡ get_or cards j 0
left_out_front cards kept n k last below copied j before =
    let differ : j ≢ k = omega arith in
    let within : j < n = omega arith in
    get_or-set_other kept k j last 0 differ ∙ (ap (λ (zs : List ℕ). get_or zs j 0) copied ∙ get_or-take n cards j 0 within)

pub left_out_last_front : (cards kept : List ℕ) (n k : ℕ) → k ≤ n → kept ≡ take n cards → (j : ℕ) → j < k → get_or kept j 0 ≡ get_or cards j 0
left_out_last_front cards kept n k upto copied j before =
    let within : j < n = omega arith in
    ap (λ (zs : List ℕ). get_or zs j 0) copied ∙ get_or-take n cards j 0 within

-- the last card left out leaves one of the others to be left out too
pub best_of_seven_all : (cards : List ℕ) (best : Worth) → length cards ≡ 7 → IsBestLeavingOut cards 0 6 best → IsBestOf cards best
best_of_seven_all cards best seven so_far =
    let kept : List ℕ = take 6 cards in
    let six : length (take 6 cards) ≡ 6 = length-take-le 6 cards (omega (arith, seven)) in
    let last : IsAtLeastWithout cards best 6 =
    two_left_out cards (take 6 cards) 6 best six (left_out_last cards (take 6 cards) 6 6 seven (omega arith) (omega arith) refl)
    (left_out_last_front cards (take 6 cards) 6 6 (omega arith) refl)
    (λ q below. so_far.greatest q below (omega arith))
    (λ q below after. absurd (omega arith)) in
    let all : (place : ℕ) → place < 6 + 1 → IsAtLeastWithout cards best place =
    below_more (λ k. IsAtLeastWithout cards best k) 6 (λ k below. so_far.greatest k below (omega arith)) last in
    record {
      reached = so_far.reached;
      greatest = λ five chosen. greatest_of_all cards best five chosen.others (omega (arith, seven)) chosen.count chosen.together (λ place within. all place (omega (arith, seven)));
    }
