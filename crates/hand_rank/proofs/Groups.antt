-- What five cards are worth, from the ranks that come five times, four times and so on.
use Rattle.std.proofs.Common.{◌≡◌, ◌≢◌, ℕ, zero, suc, ◌+◌, ◌-◌, ◌*◌, ◌<◌, ◌≤◌, Bool, true, false, cond, eqb, ◌==◌, ◌&&◌, List, [], ◌∷◌, ◌++◌, length, get_or, replicate, Option, Some, None, inl, inr, ◌⊎◌, refl, sym, ◌∙◌, ap, subst, arith}
use Rattle.std.specs.List.{All, AllByRecursion, flat_map, find, sum, sum_by, count_by, list_all}
use Rattle.std.specs.Option.{is_some}
use Rattle.std.proofs.lemmas.Bool.{cases_eq, cases_lt, cases_Bool, eq-eqb, ne_eqb, eqb-true, cond-true, cond-false, and_parts, and_from}
use Rattle.std.proofs.lemmas.List.{append-nil}
use Rattle.card_core.specs.Card.{rank_of}
use Rattle.hand_rank.specs.Five.{by_count_then_height, ranks_coming, copies_of, ranks_down, straight_top, straight_ranks, is_straight_from, counts_of, is_flush, category_of, groups_of, deciding_ranks, worth_of_five, rank_count}
use Rattle.hand_rank.specs.Worth.{Worth}
use Rattle.hand_rank.proofs.Counts.{counts_of-at, length-counts_of}
use Rattle.hand_rank.proofs.Picks.{IsIn, IsPicked, left_out, left_out-kept, left_out-le, left_out-total, wanted, wanted_so_often, wanted_is_in, in_is_wanted}
use Rattle.hand_rank.proofs.Totals.{sum_below, sum_below-same, sum_below-none, one_if, one_if_same, one_if_other, total_count}

-- ---- the ranks that come so often

-- those below a rank that come so often, the highest first
unfoldable pub those : (ℕ → ℕ) → ℕ → ℕ → List ℕ
those count n zero = []
those count n (suc rank) = cond (count rank == n) (rank ∷ those count n rank) (those count n rank)

those-here : (count : ℕ → ℕ) (n rank : ℕ) → count rank ≡ n → those count n (suc rank) ≡ rank ∷ those count n rank
unfolding those
those-here count n rank same = cond-true (count rank == n) (rank ∷ those count n rank) (those count n rank) (eq-eqb (count rank) n same)

those-not_here : (count : ℕ → ℕ) (n rank : ℕ) → count rank ≢ n → those count n (suc rank) ≡ those count n rank
unfolding those
those-not_here count n rank differ = cond-false (count rank == n) (rank ∷ those count n rank) (those count n rank) (ne_eqb (count rank) n differ)

those-none : (count : ℕ → ℕ) (n : ℕ) → those count n zero ≡ []
unfolding those
those-none count n = refl

-- the first of them, and the others below it
pub record IsFirstThat (count : ℕ → ℕ) (n below rank : ℕ) (ranks : List ℕ) : Type 0 where
  pub low : rank < below
  pub comes : count rank ≡ n
  pub others : those count n rank ≡ ranks

pub those_first : (count : ℕ → ℕ) (n below rank : ℕ) (ranks : List ℕ) → those count n below ≡ rank ∷ ranks → IsFirstThat count n below rank ranks
those_first count n zero rank ranks e = absurd (let none = those-none count n in cc)
those_first count n (suc below) rank ranks e =
    elim (cases_eq (count below) n) [
      | inl same ↦
          let both : below ∷ those count n below ≡ rank ∷ ranks = sym (those-here count n below same) ∙ e in
          let first : below ≡ rank = cc in
          let rest : those count n below ≡ ranks = cc in
          let P : ℕ → Type 0 = λ k. IsFirstThat count n (suc below) k ranks in
          subst P first (record { low = omega arith; comes = same; others = rest })
      | inr differ ↦
          let found : IsFirstThat count n below rank ranks = those_first count n below rank ranks (sym (those-not_here count n below differ) ∙ e) in
          record { low = omega (arith, found.low); comes = found.comes; others = found.others }
    ]

pub length_those : (count : ℕ → ℕ) (n below : ℕ) → length (those count n below) ≡ sum_below below (λ rank. one_if (count rank == n))
unfolding those sum_below
length_those count n zero = refl
length_those count n (suc below) =
    elim (cases_eq (count below) n) [
      | inl same ↦ omega (arith, ap length (those-here count n below same), length_those count n below, one_if_same (count below) n same)
      | inr differ ↦ omega (arith, ap length (those-not_here count n below differ), length_those count n below, one_if_other (count below) n differ)
    ]

-- a list from the highest down
abbrev pub IsDescending : ℕ → List ℕ → Type 0
IsDescending below [] = Unit {0}
IsDescending below (rank ∷ ranks) = (rank < below) × IsDescending rank ranks

pub in_is_below : (below rank : ℕ) (ranks : List ℕ) → IsDescending below ranks → IsIn rank ranks → rank < below
in_is_below below rank [] down within = absurd within
in_is_below below rank (x ∷ xs) down (inl same) = omega (arith, down.0)
in_is_below below rank (x ∷ xs) down (inr later) = omega (arith, in_is_below x rank xs down.1 later, down.0)

-- they are known from which ranks come so often
pub those_are : (count : ℕ → ℕ) (n below : ℕ) (ranks : List ℕ) → IsDescending below ranks → ((rank : ℕ) → rank < below → count rank ≡ n → IsIn rank ranks) → ((rank : ℕ) → IsIn rank ranks → count rank ≡ n) → those count n below ≡ ranks
those_are count n zero [] down all only = those-none count n
those_are count n zero (x ∷ xs) down all only = absurd (omega (arith, down.0))
those_are count n (suc below) [] down all only =
    those-not_here count n below (λ (same : count below ≡ n). all below (omega arith) same)
    ∙ those_are count n below [] tt (λ rank low same. all rank (omega arith) same) only
those_are count n (suc below) (x ∷ xs) down all only =
    elim (cases_eq below x) [
      | inl here ↦
          let comes : count below ≡ n = only below (inl here) in
          let P : ℕ → Type 0 = λ k. IsDescending k xs in
          let rest : those count n below ≡ xs =
          those_are count n below xs (subst P (sym here) down.1)
          (λ rank low same. elim (all rank (omega arith) same) [ inl first ↦ absurd (omega arith) | inr later ↦ later ])
          (λ rank within. only rank (inr within)) in
          those-here count n below comes ∙ (ap (λ (k : List ℕ). below ∷ k) rest ∙ ap (λ (k : ℕ). k ∷ xs) here)
      | inr there ↦
          let lower : x < below = omega (arith, down.0) in
          let differ : count below ≢ n = λ (same : count below ≡ n). elim (all below (omega arith) same) [
            | inl first ↦ there first
            | inr later ↦ absurd (let less = in_is_below x below xs down.1 later in omega arith)
          ] in
          those-not_here count n below differ ∙ those_are count n below (x ∷ xs) (lower, down.1) (λ rank low same. all rank (omega arith) same) only
    ]

-- ---- the counts of five cards by such ranks

one_size : (c : ℕ) → c ≤ 5 → 5 * one_if (c == 5) + 4 * one_if (c == 4) + 3 * one_if (c == 3) + 2 * one_if (c == 2) + one_if (c == 1) ≡ c
one_size zero h = refl
one_size (suc zero) h = refl
one_size (suc (suc zero)) h = refl
one_size (suc (suc (suc zero))) h = refl
one_size (suc (suc (suc (suc zero)))) h = refl
one_size (suc (suc (suc (suc (suc zero))))) h = refl
one_size (suc (suc (suc (suc (suc (suc c)))))) h = absurd (omega arith)

by_sizes : (count : ℕ → ℕ) (below : ℕ) → ((rank : ℕ) → count rank ≤ 5) → 5 * sum_below below (λ rank. one_if (count rank == 5)) + 4 * sum_below below (λ rank. one_if (count rank == 4)) + 3 * sum_below below (λ rank. one_if (count rank == 3)) + 2 * sum_below below (λ rank. one_if (count rank == 2)) + sum_below below (λ rank. one_if (count rank == 1)) ≡ sum_below below count
unfolding sum_below
by_sizes count zero most = refl
by_sizes count (suc below) most = omega (arith, by_sizes count below most, one_size (count below) (most below))

-- how many ranks come five times, four times and so on, among cards that are so many
pub sizes_together : (count : ℕ → ℕ) → ((rank : ℕ) → count rank ≤ 5) → 5 * length (those count 5 13) + 4 * length (those count 4 13) + 3 * length (those count 3 13) + 2 * length (those count 2 13) + length (those count 1 13) ≡ sum_below 13 count
sizes_together count most =
    omega (arith, by_sizes count 13 most, length_those count 5 13, length_those count 4 13, length_those count 3 13, length_those count 2 13, length_those count 1 13)

-- the same by the list of counts
abbrev pub at_rank : List ℕ → ℕ → ℕ
at_rank counts rank = get_or counts rank 0

copies-step : (counts : List ℕ) (size rank : ℕ) (ranks others : List ℕ) → flat_map (copies_of counts size) ranks ≡ flat_map (replicate size) (those (at_rank counts) size rank) → copies_of counts size rank ++ flat_map (copies_of counts size) ranks ≡ flat_map (replicate size) (those (at_rank counts) size (suc rank))
copies-step counts size rank ranks others so_far =
    elim (cases_eq (get_or counts rank 0) size) [
      | inl same ↦
          let copies : copies_of counts size rank ≡ replicate size rank = cond-true (get_or counts rank 0 == size) (replicate size rank) [] (eq-eqb (get_or counts rank 0) size same) in
          let whole : flat_map (replicate size) (those (at_rank counts) size (suc rank)) ≡ replicate size rank ++ flat_map (replicate size) (those (at_rank counts) size rank) =
          ap (flat_map (replicate size)) (those-here (at_rank counts) size rank same) in
          ap (λ (xs : List ℕ). xs ++ flat_map (copies_of counts size) ranks) copies ∙ (ap (λ (xs : List ℕ). replicate size rank ++ xs) so_far ∙ sym whole)
      | inr differ ↦
          let copies : copies_of counts size rank ≡ [] = cond-false (get_or counts rank 0 == size) (replicate size rank) [] (ne_eqb (get_or counts rank 0) size differ) in
          ap (λ (xs : List ℕ). xs ++ flat_map (copies_of counts size) ranks) copies ∙ (so_far ∙ ap (flat_map (replicate size)) (sym (those-not_here (at_rank counts) size rank differ)))
    ]

-- the ranks from below a rank down
unfoldable pub down : ℕ → List ℕ
down zero = []
down (suc rank) = rank ∷ down rank

copies_down : (counts : List ℕ) (size below : ℕ) → flat_map (copies_of counts size) (down below) ≡ flat_map (replicate size) (those (at_rank counts) size below)
unfolding down
copies_down counts size zero = ap (flat_map (replicate size)) (sym (those-none (at_rank counts) size))
copies_down counts size (suc below) = copies-step counts size below (down below) [] (copies_down counts size below)

ranks_down_is : ranks_down ≡ down 13
unfolding down
ranks_down_is = refl

coming : (counts : List ℕ) (size : ℕ) → ranks_coming counts size ≡ flat_map (replicate size) (those (at_rank counts) size 13)
unfolding ranks_coming
coming counts size = ap (flat_map (copies_of counts size)) ranks_down_is ∙ copies_down counts size 13

-- all ranks in order, from those that come five times on
abbrev pub in_order : List ℕ → List ℕ → List ℕ → List ℕ → List ℕ → List ℕ
in_order fives fours threes pairs singles = flat_map (replicate 5) fives ++ (flat_map (replicate 4) fours ++ (flat_map (replicate 3) threes ++ (flat_map (replicate 2) pairs ++ (flat_map (replicate 1) singles ++ []))))

pub ordered : (counts : List ℕ) → by_count_then_height counts ≡ in_order (those (at_rank counts) 5 13) (those (at_rank counts) 4 13) (those (at_rank counts) 3 13) (those (at_rank counts) 2 13) (those (at_rank counts) 1 13)
unfolding by_count_then_height
ordered counts =
    let fives = coming counts 5 in
    let fours = coming counts 4 in
    let threes = coming counts 3 in
    let pairs = coming counts 2 in
    let singles = coming counts 1 in
    cc

groups_below : (size : ℕ) (counts : List ℕ) → length counts ≡ 13 → count_by (λ count. count == size) counts ≡ sum_below 13 (λ rank. one_if (get_or counts rank 0 == size))
unfolding sum_below
groups_below size (a ∷ b ∷ c ∷ d ∷ e ∷ f ∷ g ∷ h ∷ i ∷ j ∷ k ∷ l ∷ m ∷ []) thirteen = omega arith
groups_below size _ thirteen = absurd (omega arith)

pub groups_are : (size : ℕ) (counts : List ℕ) → length counts ≡ 13 → groups_of size counts ≡ length (those (at_rank counts) size 13)
unfolding groups_of
groups_are size counts thirteen = groups_below size counts thirteen ∙ sym (length_those (at_rank counts) size 13)

-- the category by how many ranks come four times, three times and twice
abbrev pub category_by : Bool → Bool → ℕ → ℕ → ℕ → ℕ
category_by flush straight fours threes pairs =
    cond (flush && straight) 8
    (cond (fours == 1) 7
    (cond ((threes == 1) && (pairs == 1)) 6
    (cond flush 5
    (cond straight 4
    (cond (threes == 1) 3
    (cond (pairs == 2) 2
    (cond (pairs == 1) 1 0)))))))

pub category_is : (flush straight : Bool) (counts : List ℕ) → category_of flush straight counts ≡ category_by flush straight (groups_of 4 counts) (groups_of 3 counts) (groups_of 2 counts)
unfolding category_of
category_is flush straight counts = refl

-- ---- what five cards are worth

abbrev pub worth : ℕ → List ℕ → Worth
worth category ranks = record { category = category; ranks = ranks }
