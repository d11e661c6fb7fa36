-- Straights by counts: which top is found, and what five cards in a row are worth.
use Rattle.std.proofs.Common.{◌≡◌, ◌≢◌, ℕ, zero, suc, ◌+◌, ◌-◌, ◌<◌, ◌≤◌, Bool, true, false, cond, eqb, ◌==◌, ◌&&◌, List, [], ◌∷◌, ◌++◌, length, get_or, replicate, Option, Some, None, inl, inr, ◌⊎◌, refl, sym, ◌∙◌, ap, subst, arith}
use Rattle.std.specs.List.{All, AllByRecursion, find, list_all, sum}
use Rattle.std.specs.Option.{is_some}
use Rattle.std.proofs.lemmas.Bool.{cases_eq, cases_lt, cases_Bool, eq-eqb, ne_eqb, eqb-true, cond-true, cond-false, and_parts, and_from}
use Rattle.std.proofs.lemmas.List.{get_or_past}
use Rattle.card_core.specs.Card.{rank_of}
use Rattle.hand_rank.specs.Five.{by_count_then_height, straight_top, straight_ranks, is_straight_from, counts_of, is_flush, category_of, groups_of, deciding_ranks, worth_of_five, rank_count}
use Rattle.hand_rank.specs.Worth.{Worth}
use Rattle.hand_rank.proofs.Counts.{counts_of-at, length-counts_of}
use Rattle.hand_rank.proofs.Groups.{those, those_are, at_rank, category_by, category_is, groups_are, ordered, in_order, worth}
use Rattle.hand_rank.proofs.Picks.{IsIn, IsPicked, left_out, left_out-kept, wanted, wanted_is_there, wanted_total}
use Rattle.hand_rank.proofs.Totals.{sum_below, sum_below-same, sum_below-le, total_count}

-- ---- the top that is found

abbrev pub tops : ℕ → List ℕ
tops zero = []
tops (suc n) = (n + 3) ∷ tops n

-- a top that passes
pub record IsTop (p : ℕ → Bool) (n top : ℕ) : Type 0 where
  pub passes : p top ≡ true
  pub least : 3 ≤ top
  pub most : top < n + 3

found_is_top : (p : ℕ → Bool) (n top : ℕ) → find p (tops n) ≡ Some top → IsTop p n top
found_is_top p zero top e = absurd (cc)
found_is_top p (suc n) top e =
    elim (cases_Bool (p (n + 3))) [
      | inl passes ↦
          let both : Some (n + 3) ≡ Some top = sym (cond-true (p (n + 3)) (Some (n + 3)) (find p (tops n)) passes) ∙ e in
          let first : n + 3 ≡ top = cc in
          let P : ℕ → Type 0 = λ k. p k ≡ true in
          record { passes = subst P first passes; least = omega arith; most = omega arith }
      | inr fails ↦
          let later : IsTop p n top = found_is_top p n top (sym (cond-false (p (n + 3)) (Some (n + 3)) (find p (tops n)) fails) ∙ e) in
          record { passes = later.passes; least = later.least; most = omega (arith, later.most) }
    ]

-- and one no lower than a top that passes
pub record IsFound (p : ℕ → Bool) (n top : ℕ) : Type 0 where
  pub found : ℕ
  pub is : find p (tops n) ≡ Some found
  pub above : top ≤ found

top_is_found : (p : ℕ → Bool) (n top : ℕ) → IsTop p n top → IsFound p n top
top_is_found p zero top it = absurd (omega (arith, it.least, it.most))
top_is_found p (suc n) top it =
    elim (cases_Bool (p (n + 3))) [
      | inl passes ↦ record { found = n + 3; is = cond-true (p (n + 3)) (Some (n + 3)) (find p (tops n)) passes; above = omega (arith, it.most) }
      | inr fails ↦
          let differ : top ≢ n + 3 = λ (same : top ≡ n + 3). absurd (let P : ℕ → Type 0 = λ k. p k ≡ true in let passes : p (n + 3) ≡ true = subst P same it.passes in cc) in
          let later : IsFound p n top = top_is_found p n top (record { passes = it.passes; least = it.least; most = omega (arith, it.most) }) in
          record { found = later.found; is = cond-false (p (n + 3)) (Some (n + 3)) (find p (tops n)) fails ∙ later.is; above = later.above }
    ]

pub straight_top_is : (counts : List ℕ) (top : ℕ) → straight_top counts ≡ Some top → IsTop (is_straight_from counts) 10 top
unfolding straight_top
straight_top_is counts top e = found_is_top (is_straight_from counts) 10 top e

pub straight_top_found : (counts : List ℕ) (top : ℕ) → IsTop (is_straight_from counts) 10 top → (found : ℕ) × (straight_top counts ≡ Some found) × (top ≤ found)
unfolding straight_top
straight_top_found counts top it =
    let found = top_is_found (is_straight_from counts) 10 top it in
    (found.found, found.is, found.above)

pub ones_from_test : (f : ℕ → ℕ) (ranks : List ℕ) → list_all (λ rank. f rank == 1) ranks ≡ true → AllByRecursion (λ rank. f rank ≡ 1) ranks
ones_from_test f [] e = tt
ones_from_test f (rank ∷ ranks) e =
    let parts = and_parts (f rank == 1) (list_all (λ other. f other == 1) ranks) e in
    (eqb-true (f rank) 1 parts.0, ones_from_test f ranks parts.1)

pub test_from_ones : (f : ℕ → ℕ) (ranks : List ℕ) → AllByRecursion (λ rank. f rank ≡ 1) ranks → list_all (λ rank. f rank == 1) ranks ≡ true
test_from_ones f [] all = refl
test_from_ones f (rank ∷ ranks) all = and_from (f rank == 1) (list_all (λ other. f other == 1) ranks) (eq-eqb (f rank) 1 all.0) (test_from_ones f ranks all.1)

-- ---- different ranks

-- no rank stands twice
abbrev pub IsApart : List ℕ → Type 0
IsApart [] = Unit {0}
IsApart (rank ∷ ranks) = AllByRecursion (λ other. other ≢ rank) ranks × IsApart ranks

still_there : (count : ℕ → ℕ) (rank : ℕ) (ranks : List ℕ) → AllByRecursion (λ other. 1 ≤ count other) ranks → AllByRecursion (λ other. other ≢ rank) ranks → AllByRecursion (λ other. 1 ≤ left_out count rank other) ranks
still_there count rank [] all differ = tt
still_there count rank (x ∷ xs) all differ = (omega (arith, left_out-kept count rank x differ.0, all.0), still_there count rank xs all.1 differ.1)

-- one each
abbrev pub one_each : List ℕ → List ℕ
one_each [] = []
one_each (rank ∷ ranks) = 1 ∷ one_each ranks

pub picked_apart : (count : ℕ → ℕ) (ranks : List ℕ) → AllByRecursion (λ rank. 1 ≤ count rank) ranks → IsApart ranks → IsPicked count (one_each ranks) ranks
picked_apart count [] all apart = tt
picked_apart count (rank ∷ ranks) all apart = (omega arith, all.0, picked_apart (left_out count rank) ranks (still_there count rank ranks all.1 apart.0) apart.1)

last_rank : (top : ℕ) → ((top ≡ 3) × (cond (eqb top 3) 12 (top - 4) ≡ 12)) ⊎ ((top ≢ 3) × (cond (eqb top 3) 12 (top - 4) ≡ top - 4))
last_rank top =
    elim (cases_eq top 3) [
      | inl same ↦ inl (same, cond-true (eqb top 3) 12 (top - 4) (eq-eqb top 3 same))
      | inr differ ↦ inr (differ, cond-false (eqb top 3) 12 (top - 4) (ne_eqb top 3 differ))
    ]

apart_with : (top last : ℕ) → 3 ≤ top → top ≤ 12 → ((top ≡ 3) × (last ≡ 12)) ⊎ ((top ≢ 3) × (last ≡ top - 4)) → IsApart (top ∷ (top - 1) ∷ (top - 2) ∷ (top - 3) ∷ last ∷ [])
apart_with top last least most (inl wheel) = (
  (λ same. omega (arith, wheel.0, wheel.1), (λ same. omega (arith, wheel.0, wheel.1), (λ same. omega (arith, wheel.0, wheel.1), (λ same. omega (arith, wheel.0, wheel.1), tt)))),
  (
    (λ same. omega (arith, wheel.0, wheel.1), (λ same. omega (arith, wheel.0, wheel.1), (λ same. omega (arith, wheel.0, wheel.1), tt))),
    (
      (λ same. omega (arith, wheel.0, wheel.1), (λ same. omega (arith, wheel.0, wheel.1), tt)),
      (
        (λ same. omega (arith, wheel.0, wheel.1), tt),
        (tt, tt),
      ),
    ),
  ),
)
apart_with top last least most (inr row) = (
  (λ same. omega (arith, row.0, row.1), (λ same. omega (arith, row.0, row.1), (λ same. omega (arith, row.0, row.1), (λ same. omega (arith, row.0, row.1), tt)))),
  (
    (λ same. omega (arith, row.0, row.1), (λ same. omega (arith, row.0, row.1), (λ same. omega (arith, row.0, row.1), tt))),
    (
      (λ same. omega (arith, row.0, row.1), (λ same. omega (arith, row.0, row.1), tt)),
      (
        (λ same. omega (arith, row.0, row.1), tt),
        (tt, tt),
      ),
    ),
  ),
)

-- the five ranks of a straight differ
pub straight_apart : (top : ℕ) → 3 ≤ top → top ≤ 12 → IsApart (straight_ranks top)
straight_apart top least most = apart_with top (cond (eqb top 3) 12 (top - 4)) least most (last_rank top)

-- ---- counts that are used up

sum_below-equal : (n : ℕ) (f g : ℕ → ℕ) → ((rank : ℕ) → rank < n → f rank ≤ g rank) → sum_below n f ≡ sum_below n g → (rank : ℕ) → rank < n → f rank ≡ g rank
unfolding sum_below
sum_below-equal zero f g upto same rank low = absurd (omega arith)
sum_below-equal (suc n) f g upto same rank low =
    let rest : sum_below n f ≤ sum_below n g = sum_below-le n f g (λ other below. upto other (omega arith)) in
    let top : f n ≤ g n = upto n (omega arith) in
    elim (cases_eq rank n) [
      | inl here ↦
          let P : ℕ → Type 0 = λ k. f k ≡ g k in
          subst P (sym here) (omega arith)
      | inr there ↦ sum_below-equal n f g (λ other below. upto other (omega arith)) (omega arith) rank (omega arith)
    ]

wanted_ones : (ranks picks : List ℕ) (rank : ℕ) → wanted (one_each ranks) picks rank ≤ 1
wanted_ones [] picks rank = omega arith
wanted_ones (x ∷ xs) [] rank = omega arith
wanted_ones (x ∷ xs) (p ∷ picks) rank =
    elim (cases_eq rank p) [
      | inl same ↦
          let here : wanted (one_each (x ∷ xs)) (p ∷ picks) rank ≡ 1 = cond-true (eqb rank p) 1 (wanted (one_each xs) picks rank) (eq-eqb rank p same) in
          omega arith
      | inr differ ↦
          let there : wanted (one_each (x ∷ xs)) (p ∷ picks) rank ≡ wanted (one_each xs) picks rank = cond-false (eqb rank p) 1 (wanted (one_each xs) picks rank) (ne_eqb rank p differ) in
          omega (arith, there, wanted_ones xs picks rank)
    ]

-- five different ranks of five cards are all of them, once each
five_once : (count : ℕ → ℕ) (ranks : List ℕ) → ((rank : ℕ) → 13 ≤ rank → count rank ≡ 0) → IsPicked count (one_each ranks) ranks → sum_below 13 count ≡ sum (one_each ranks) → (rank : ℕ) → rank < 13 → count rank ≤ 1
five_once count ranks none picked all rank low =
    let same : wanted (one_each ranks) ranks rank ≡ count rank =
    sum_below-equal 13 (wanted (one_each ranks) ranks) count (λ other below. wanted_is_there count (one_each ranks) ranks picked other)
    (wanted_total count (one_each ranks) ranks none picked ∙ sym all) rank low in
    omega (arith, wanted_ones ranks ranks rank)

all_at_least : (f : ℕ → ℕ) (ranks : List ℕ) → AllByRecursion (λ rank. f rank ≡ 1) ranks → AllByRecursion (λ rank. 1 ≤ f rank) ranks
all_at_least f [] all = tt
all_at_least f (rank ∷ ranks) all = (omega (arith, all.0), all_at_least f ranks all.1)

-- ---- the counts of five cards

pub at_rank-is : (five : List ℕ) (rank : ℕ) → rank < 13 → at_rank (counts_of five) rank ≡ rank_count five rank
at_rank-is five rank low = counts_of-at five rank low

pub at_rank-past : (five : List ℕ) (rank : ℕ) → 13 ≤ rank → at_rank (counts_of five) rank ≡ 0
at_rank-past five rank past = get_or_past (counts_of five) rank 0 (omega (arith, length-counts_of five))

pub at_rank-le : (five : List ℕ) (rank : ℕ) → at_rank (counts_of five) rank ≤ rank_count five rank
at_rank-le five rank =
    elim (cases_lt rank 13) [ inl low ↦ omega (arith, at_rank-is five rank low) | inr past ↦ omega (arith, at_rank-past five rank past) ]

pub at_rank-total : (five : List ℕ) → All (λ card. rank_of card < 13) five → sum_below 13 (at_rank (counts_of five)) ≡ length five
at_rank-total five all = sum_below-same 13 (at_rank (counts_of five)) (rank_count five) (λ rank low. at_rank-is five rank low) ∙ total_count five all

-- the five ranks of a straight come
pub record IsRunOf (count : ℕ → ℕ) (top : ℕ) : Type 0 where
  pub least : 3 ≤ top
  pub most : top ≤ 12
  pub present : AllByRecursion (λ rank. 1 ≤ count rank) (straight_ranks top)

-- what five cards are worth that are a straight
pub record IsStraightFive (five : List ℕ) (top : ℕ) : Type 0 where
  pub run : IsRunOf (at_rank (counts_of five)) top
  pub once : (rank : ℕ) → rank < 13 → at_rank (counts_of five) rank ≤ 1
  pub is : worth_of_five five ≡ worth (cond (is_flush five) 8 4) (top ∷ 0 ∷ 0 ∷ 0 ∷ 0 ∷ [])

none_so_often : (counts : List ℕ) (n : ℕ) → 1 < n → ((rank : ℕ) → rank < 13 → at_rank counts rank ≤ 1) → those (at_rank counts) n 13 ≡ []
none_so_often counts n more once = those_are (at_rank counts) n 13 [] tt (λ rank low same. absurd (omega (arith, once rank low))) (λ rank within. absurd within)

straight_category : (flush : Bool) → category_by flush true 0 0 0 ≡ cond flush 8 4
straight_category true = refl
straight_category false = refl

worth_with : (five : List ℕ) (top : Option ℕ) → straight_top (counts_of five) ≡ top → worth_of_five five ≡ worth (category_of (is_flush five) (is_some top) (counts_of five)) (deciding_ranks top (counts_of five))
unfolding worth_of_five
worth_with five top e = ap (λ (o : Option ℕ). worth (category_of (is_flush five) (is_some o) (counts_of five)) (deciding_ranks o (counts_of five))) e

deciding_some : (top : ℕ) (counts : List ℕ) → deciding_ranks (Some top) counts ≡ top ∷ 0 ∷ 0 ∷ 0 ∷ 0 ∷ []
unfolding deciding_ranks
deciding_some top counts = refl

pub straight_five : (five : List ℕ) (top : ℕ) → length five ≡ 5 → All (λ card. rank_of card < 13) five → straight_top (counts_of five) ≡ Some top → IsStraightFive five top
straight_five five top count all e =
    let counts : List ℕ = counts_of five in
    let it = straight_top_is (counts_of five) top e in
    let ones : AllByRecursion (λ rank. at_rank (counts_of five) rank ≡ 1) (straight_ranks top) = ones_from_test (at_rank (counts_of five)) (straight_ranks top) it.passes in
    let some : AllByRecursion (λ rank. 1 ≤ at_rank (counts_of five) rank) (straight_ranks top) = all_at_least (at_rank (counts_of five)) (straight_ranks top) ones in
    let most : top ≤ 12 = omega (arith, it.most) in
    let picked : IsPicked (at_rank (counts_of five)) (one_each (straight_ranks top)) (straight_ranks top) = picked_apart (at_rank (counts_of five)) (straight_ranks top) some (straight_apart top it.least most) in
    let once : (rank : ℕ) → rank < 13 → at_rank (counts_of five) rank ≤ 1 =
    five_once (at_rank (counts_of five)) (straight_ranks top) (at_rank-past five) picked (at_rank-total five all ∙ count) in
    let fours : groups_of 4 counts ≡ 0 = groups_are 4 counts (length-counts_of five) ∙ ap length (none_so_often counts 4 (omega arith) once) in
    let threes : groups_of 3 counts ≡ 0 = groups_are 3 counts (length-counts_of five) ∙ ap length (none_so_often counts 3 (omega arith) once) in
    let pairs : groups_of 2 counts ≡ 0 = groups_are 2 counts (length-counts_of five) ∙ ap length (none_so_often counts 2 (omega arith) once) in
    let category : category_of (is_flush five) true counts ≡ cond (is_flush five) 8 4 =
    category_is (is_flush five) true counts
    ∙ (ap (λ (n : ℕ). category_by (is_flush five) true n (groups_of 3 counts) (groups_of 2 counts)) fours
    ∙ (ap (λ (n : ℕ). category_by (is_flush five) true 0 n (groups_of 2 counts)) threes
    ∙ (ap (λ (n : ℕ). category_by (is_flush five) true 0 0 n) pairs
    ∙ straight_category (is_flush five)))) in
    record {
      run = record { least = it.least; most = most; present = some };
      once = once;
      is = worth_with five (Some top) e ∙ (ap (λ (n : ℕ). worth n (deciding_ranks (Some top) counts)) category ∙ ap (worth (cond (is_flush five) 8 4)) (deciding_some top counts));
    }

deciding_none : (counts : List ℕ) → deciding_ranks None counts ≡ by_count_then_height counts
unfolding deciding_ranks
deciding_none counts = refl

-- what five cards are worth that are no straight
pub other_five : (five : List ℕ) → straight_top (counts_of five) ≡ None →
    let count = at_rank (counts_of five) in
    worth_of_five five ≡ worth (category_by (is_flush five) false (length (those count 4 13)) (length (those count 3 13)) (length (those count 2 13))) (in_order (those count 5 13) (those count 4 13) (those count 3 13) (those count 2 13) (those count 1 13))
other_five five e =
    let counts : List ℕ = counts_of five in
    let thirteen = length-counts_of five in
    let category : category_of (is_flush five) false counts ≡ category_by (is_flush five) false (length (those (at_rank counts) 4 13)) (length (those (at_rank counts) 3 13)) (length (those (at_rank counts) 2 13)) =
    category_is (is_flush five) false counts
    ∙ (ap (λ (n : ℕ). category_by (is_flush five) false n (groups_of 3 counts) (groups_of 2 counts)) (groups_are 4 counts thirteen)
    ∙ (ap (λ (n : ℕ). category_by (is_flush five) false (length (those (at_rank counts) 4 13)) n (groups_of 2 counts)) (groups_are 3 counts thirteen)
    ∙ ap (λ (n : ℕ). category_by (is_flush five) false (length (those (at_rank counts) 4 13)) (length (those (at_rank counts) 3 13)) n) (groups_are 2 counts thirteen))) in
    worth_with five None e
    ∙ (ap (λ (n : ℕ). worth n (deciding_ranks None counts)) category
    ∙ ap (worth (category_by (is_flush five) false (length (those (at_rank counts) 4 13)) (length (those (at_rank counts) 3 13)) (length (those (at_rank counts) 2 13)))) (deciding_none counts ∙ ordered counts))
