-- The best five of seven cards, category by category: none of a higher category, none of this one worth more, and one that is.
use Rattle.std.proofs.Common.{◌≡◌, ◌≢◌, ℕ, zero, suc, ◌+◌, ◌-◌, ◌<◌, ◌≤◌, Bool, true, false, cond, eqb, ltb, ◌==◌, ◌&&◌, ◌||◌, List, [], ◌∷◌, ◌++◌, length, Option, Some, None, inl, inr, ◌⊎◌, refl, sym, ◌∙◌, ap, subst, arith}
use Rattle.std.specs.Cmp.Lexicographic.{slice_cmp}
use Rattle.std.specs.Int.{bit_at}
use Rattle.std.specs.List.{All, AllByRecursion, count_by, list_any, sum}
use Rattle.std.specs.Ordering.{is_gt, nat_cmp, ordering_then}
use Rattle.std.specs.declared.cmp.Ordering.{Ordering}
use Rattle.std.specs.declared.cmp.Ordering.TheVariants.{Less, Equal, Greater}
use Rattle.std.proofs.lemmas.Bool.{cases_eq, cases_lt, cases_Bool, eq-eqb, ne_eqb, eqb-true, cond-true, cond-false, lt-ltb, le-ltb, or_from, or_left, or_right}
use Rattle.std.proofs.lemmas.Nat.Bits.{bit_at-zero}
use Rattle.card_core.specs.Card.{rank_of, suit_of}
use Rattle.hand_rank.specs.Best.{IsFiveOf, IsReached, IsBestOf}
use Rattle.hand_rank.specs.Five.{straight_top, straight_ranks, counts_of, is_flush, worth_of_five, rank_count, suit_count}
use Rattle.hand_rank.specs.Profile.{IsSeven, IsNoneAbove, suited_count}
use Rattle.hand_rank.specs.Ranks.{IsAtLeast, IsHighest, IsWithout, IsRun, IsHighestRun, AreHighest}
use Rattle.hand_rank.specs.Worth.{Worth, worth_cmp}
use Rattle.hand_rank.proofs.Chosen.{IsWanted, IsOrdered, choose_wanted, chosen_ranks, passing_count, worth_of_wanted}
use Rattle.hand_rank.proofs.Groups.{IsDescending, at_rank, category_by, in_order, worth}
use Rattle.hand_rank.proofs.Picks.{IsIn, IsPicked, IsGreedy, cmp_less, cmp_same, expand, greedy_is_greatest, greedy_is_picked, left_out, left_out-gone, left_out-kept, left_out-le, left_out-upto, left_out-total, wanted, wanted_so_often}
use Rattle.hand_rank.proofs.Reading.{IsOfPack, IsRanked, IsStraightRanked, IsRead, read_five}
use Rattle.hand_rank.proofs.Straights.{IsRunOf, one_each, straight_five, at_rank-le, at_rank-is}
use Rattle.hand_rank.proofs.Totals.{sum_below, sum_below-none, one_if, chosen_sum, at_most_four, suited_once, suited_ranks, two_suits, none_past, suited_le, total_count, total_suited}

-- ---- five of seven cards

record IsPassing (p : ℕ → Bool) (xs : List ℕ) : Type 0 where
  pub x : ℕ
  pub within : IsIn x xs
  pub passes : p x ≡ true

some_passes : (p : ℕ → Bool) (xs : List ℕ) → list_any p xs ≡ true → IsPassing p xs
some_passes p [] e = absurd (cc)
some_passes p (x ∷ xs) e =
    elim (cases_Bool (p x)) [
      | inl good ↦ record { x = x; within = inl refl; passes = good }
      | inr bad ↦
          let rest : list_any p xs ≡ true = sym (ap (λ (b : Bool). b || list_any p xs) bad) ∙ e in
          let later = some_passes p xs rest in
          record { x = later.x; within = inr later.within; passes = later.passes }
    ]

passes_some : (p : ℕ → Bool) (x : ℕ) (xs : List ℕ) → IsIn x xs → p x ≡ true → list_any p xs ≡ true
passes_some p x [] within good = absurd within
passes_some p x (y ∷ ys) (inl same) good = or_left (p y) (list_any p ys) (ap p (sym same) ∙ good)
passes_some p x (y ∷ ys) (inr later) good = or_right (p y) (list_any p ys) (passes_some p x ys later good)

pub four_suits : (suit : ℕ) → IsIn suit (0 ∷ 1 ∷ 2 ∷ 3 ∷ []) → suit < 4
four_suits suit (inl same) = omega arith
four_suits suit (inr (inl same)) = omega arith
four_suits suit (inr (inr (inl same))) = omega arith
four_suits suit (inr (inr (inr (inl same)))) = omega arith
four_suits suit (inr (inr (inr (inr none)))) = absurd none

pub is_suit : (suit : ℕ) → suit < 4 → IsIn suit (0 ∷ 1 ∷ 2 ∷ 3 ∷ [])
is_suit zero low = inl refl
is_suit (suc zero) low = inr (inl refl)
is_suit (suc (suc zero)) low = inr (inr (inl refl))
is_suit (suc (suc (suc zero))) low = inr (inr (inr (inl refl)))
is_suit (suc (suc (suc (suc suit)))) low = absurd (omega arith)

record IsSuitOf (five : List ℕ) : Type 0 where
  pub suit : ℕ
  pub low : suit < 4
  pub all : suit_count five suit ≡ 5

suit_of_flush : (five : List ℕ) → is_flush five ≡ true → IsSuitOf five
unfolding is_flush
suit_of_flush five e =
    let it = some_passes (λ suit. suit_count five suit == 5) (0 ∷ 1 ∷ 2 ∷ 3 ∷ []) e in
    record { suit = it.x; low = four_suits it.x it.within; all = eqb-true (suit_count five it.x) 5 it.passes }

pub flush_of_suit : (five : List ℕ) (suit : ℕ) → suit < 4 → suit_count five suit ≡ 5 → is_flush five ≡ true
unfolding is_flush
flush_of_suit five suit low all = passes_some (λ other. suit_count five other == 5) suit (0 ∷ 1 ∷ 2 ∷ 3 ∷ []) (is_suit suit low) (eq-eqb (suit_count five suit) 5 all)

count_upto : (cards five : List ℕ) → IsFiveOf cards five → (rank : ℕ) → rank_count five rank ≤ rank_count cards rank
count_upto cards five chosen rank = chosen_sum (λ card. one_if (rank_of card == rank)) cards five chosen

pub upto : (cards five : List ℕ) → IsFiveOf cards five → (rank : ℕ) → at_rank (counts_of five) rank ≤ rank_count cards rank
upto cards five chosen rank = omega (arith, at_rank-le five rank, count_upto cards five chosen rank)

in_suit : (cards five : List ℕ) (suit : ℕ) → IsFiveOf cards five → suit_count five suit ≡ 5 → (rank : ℕ) → rank_count five rank ≤ suited_count cards suit rank
in_suit cards five suit chosen all rank =
    omega (arith, suited_ranks five suit rank, chosen_sum (λ card. one_if ((suit_of card == suit) && (rank_of card == rank))) cards five chosen, all, chosen.count)

pack_of : (cards five : List ℕ) → IsSeven cards → IsFiveOf cards five → IsOfPack five
pack_of cards five seven chosen = record {
  count = chosen.count;
  ranks = chosen_ranks cards five chosen seven.ranks;
  most = λ rank. omega (arith, count_upto cards five chosen rank, at_most_four cards rank seven.distinct);
  suited = λ flush rank.
      let it = suit_of_flush five flush in
      omega (arith, in_suit cards five it.suit chosen it.all rank, suited_once cards it.suit rank seven.distinct it.low);
}

pub read_at : (cards five : List ℕ) (category : ℕ) → IsSeven cards → IsFiveOf cards five → (worth_of_five five).category ≡ category → IsRead category (at_rank (counts_of five)) (is_flush five) (worth_of_five five).ranks
read_at cards five category seven chosen same =
    let P : ℕ → Type 0 = λ n. IsRead n (at_rank (counts_of five)) (is_flush five) (worth_of_five five).ranks in
    subst P same (read_five five (pack_of cards five seven chosen))

-- there is no tenth category
pub none_above_eight : (cards : List ℕ) → IsSeven cards → IsNoneAbove cards 8
none_above_eight cards seven five chosen =
    elim (cases_lt 8 (worth_of_five five).category) [
      | inl more ↦
          let most : ℕ = (worth_of_five five).category - 9 in
          let same : (worth_of_five five).category ≡ suc (suc (suc (suc (suc (suc (suc (suc (suc ((worth_of_five five).category - 9))))))))) = omega arith in
          absurd (read_at cards five (suc (suc (suc (suc (suc (suc (suc (suc (suc ((worth_of_five five).category - 9)))))))))) seven chosen same)
      | inr fits ↦ fits
    ]

pub lower : (cards : List ℕ) (category : ℕ) → IsNoneAbove cards (suc category) → ((five : List ℕ) → IsFiveOf cards five → (worth_of_five five).category ≡ suc category → ⊥) → IsNoneAbove cards category
lower cards category above none five chosen =
    elim (cases_eq (worth_of_five five).category (suc category)) [
      | inl same ↦ absurd (none five chosen same)
      | inr differ ↦ let most : (worth_of_five five).category ≤ suc category = above five chosen in omega arith
    ]

pub best_from : (cards ranks : List ℕ) (category : ℕ) → IsNoneAbove cards category → ((five : List ℕ) → IsFiveOf cards five → (worth_of_five five).category ≡ category → is_gt (slice_cmp nat_cmp (worth_of_five five).ranks ranks) ≡ false) → IsReached cards (worth category ranks) → IsBestOf cards (worth category ranks)
best_from cards ranks category above level reached = record {
  reached = reached;
  greatest = λ five chosen.
      let own : ℕ = (worth_of_five five).category in
      let rest : Ordering = slice_cmp nat_cmp (worth_of_five five).ranks ranks in
      elim (cases_eq (worth_of_five five).category category) [
        | inl same ↦
            let first : nat_cmp (worth_of_five five).category category ≡ Equal =
            cond-false (ltb (worth_of_five five).category category) Less (cond ((worth_of_five five).category == category) Equal Greater) (le-ltb (worth_of_five five).category category (omega arith))
            ∙ cond-true ((worth_of_five five).category == category) Equal Greater (eq-eqb (worth_of_five five).category category same) in
            ap (λ (o : Ordering). is_gt (ordering_then o (slice_cmp nat_cmp (worth_of_five five).ranks ranks))) first ∙ level five chosen same
        | inr differ ↦
            let most : (worth_of_five five).category ≤ category = above five chosen in
            let first : nat_cmp (worth_of_five five).category category ≡ Less =
            cond-true (ltb (worth_of_five five).category category) Less (cond ((worth_of_five five).category == category) Equal Greater) (lt-ltb (worth_of_five five).category category (omega arith)) in
            ap (λ (o : Ordering). is_gt (ordering_then o (slice_cmp nat_cmp (worth_of_five five).ranks ranks))) first
      ];
}

-- ---- what sets say of counts

pub empty_set : (bits size : ℕ) (count : ℕ → ℕ) → IsAtLeast bits size count → bits ≡ 0 → (rank : ℕ) → count rank < size
empty_set bits size count set none rank =
    elim (cases_lt (count rank) size) [
      | inl few ↦ few
      | inr enough ↦
          let zero_bit : bit_at bits rank ≡ 0 = ap (λ (n : ℕ). bit_at n rank) none ∙ bit_at-zero rank in
          absurd (omega (arith, set.present rank enough))
    ]

pub set_without : (bits size rank others : ℕ) (count : ℕ → ℕ) → 0 < size → IsAtLeast bits size count → IsWithout bits rank others → IsAtLeast others size (left_out count rank)
set_without bits size rank others count some set fewer = record {
  present = λ other enough.
      elim (cases_eq other rank) [
        | inl same ↦ absurd (omega (arith, ap (left_out count rank) same, left_out-gone count rank))
        | inr differ ↦ fewer.kept other differ ∙ set.present other (omega (arith, left_out-kept count rank other differ))
      ];
  absent = λ other few.
      elim (cases_eq other rank) [
        | inl same ↦ ap (bit_at others) same ∙ fewer.gone
        | inr differ ↦ fewer.kept other differ ∙ set.absent other (omega (arith, left_out-kept count rank other differ))
      ];
}

pub record IsMost (count : ℕ → ℕ) (size rank : ℕ) : Type 0 where
  pub enough : size ≤ count rank
  pub greatest : (other : ℕ) → size ≤ count other → other ≤ rank

pub highest_set : (bits size rank : ℕ) (count : ℕ → ℕ) → IsAtLeast bits size count → IsHighest bits rank → IsMost count size rank
highest_set bits size rank count set highest = record {
  enough = elim (cases_lt (count rank) size) [
    | inl few ↦ absurd (omega (arith, set.absent rank few, highest.present))
    | inr enough ↦ enough
  ];
  greatest = λ other enough.
      elim (cases_lt rank other) [
        | inl more ↦ absurd (omega (arith, highest.above other more, set.present other enough))
        | inr most ↦ most
      ];
}

some_set : (bits : ℕ) (count : ℕ → ℕ) → IsAtLeast bits 1 count → 0 < sum_below 13 count → 0 < bits
some_set bits count set some =
    elim (cases_lt 0 bits) [
      | inl more ↦ more
      | inr none ↦
          absurd (omega (arith, some, sum_below-none 13 count (λ rank low. let few = empty_set bits 1 count set (omega arith) rank in omega arith)))
    ]

-- no card has a rank past the ace
pub past_ranks : (cards : List ℕ) → IsSeven cards → (rank : ℕ) → 13 ≤ rank → rank_count cards rank ≡ 0
past_ranks cards seven rank past = none_past cards rank past seven.ranks

-- ---- picks from sets

pub first_greedy : (bits size rank : ℕ) (count : ℕ → ℕ) (sizes ranks : List ℕ) → 0 < size → IsAtLeast bits size count → IsHighest bits rank → IsGreedy (left_out count rank) sizes ranks → IsGreedy count (size ∷ sizes) (rank ∷ ranks)
first_greedy bits size rank count sizes ranks some set highest rest =
    let most = highest_set bits size rank count set highest in
    (some, most.enough, most.greatest, rest)

pub low_rank : (count : ℕ → ℕ) (rank : ℕ) → ((other : ℕ) → 13 ≤ other → count other ≡ 0) → 0 < count rank → rank < 13
low_rank count rank past some = elim (cases_lt rank 13) [ inl low ↦ low | inr high ↦ absurd (omega (arith, past rank high)) ]

pub left_past : (count : ℕ → ℕ) (rank : ℕ) → ((other : ℕ) → 13 ≤ other → count other ≡ 0) → (other : ℕ) → 13 ≤ other → left_out count rank other ≡ 0
left_past count rank past other high = omega (arith, past other high, left_out-le count rank other)

-- single cards, where no rank comes twice
pub greedy_ones : (bits : ℕ) (ranks : List ℕ) (count : ℕ → ℕ) → AreHighest bits ranks → IsAtLeast bits 1 count → ((rank : ℕ) → 13 ≤ rank → count rank ≡ 0) → ((rank : ℕ) → count rank ≤ 1) → length ranks ≤ sum_below 13 count → IsGreedy count (one_each ranks) ranks
greedy_ones bits [] count highest set past once enough = tt
greedy_ones bits (rank ∷ ranks) count highest set past once enough =
    let top : IsHighest bits rank = highest.0 (some_set bits count set (omega arith)) in
    let most = highest_set bits 1 rank count set top in
    let low : rank < 13 = low_rank count rank past (omega (arith, most.enough)) in
    let others : ℕ = highest.1.0 in
    first_greedy bits 1 rank count (one_each ranks) ranks (omega arith) set top
    (greedy_ones highest.1.0 ranks (left_out count rank) highest.1.2 (set_without bits 1 rank highest.1.0 count (omega arith) set highest.1.1) (left_past count rank past)
    (λ other. omega (arith, left_out-le count rank other, once other))
    (omega (arith, left_out-total count rank low, once rank)))

-- a single card
pub greedy_last : (bits rank : ℕ) (count : ℕ → ℕ) → (0 < bits → IsHighest bits rank) → IsAtLeast bits 1 count → 0 < sum_below 13 count → IsGreedy count (1 ∷ []) (rank ∷ [])
greedy_last bits rank count highest set some = first_greedy bits 1 rank count [] [] (omega arith) set (highest (some_set bits count set some)) tt

-- ---- which categories there are not

record IsFirstPick (count : ℕ → ℕ) (size : ℕ) (sizes : List ℕ) : Type 0 where
  pub rank : ℕ
  pub rest : List ℕ
  pub enough : size ≤ count rank
  pub after : IsPicked (left_out count rank) sizes rest

first_pick : (count : ℕ → ℕ) (size : ℕ) (sizes picks : List ℕ) → IsPicked count (size ∷ sizes) picks → IsFirstPick count size sizes
first_pick count size sizes [] picked = absurd picked
first_pick count size sizes (rank ∷ rest) picked = record { rank = rank; rest = rest; enough = picked.1; after = picked.2 }

-- none where no rank comes so often as the first of them
not_first : (count more : ℕ → ℕ) (size : ℕ) (sizes ranks : List ℕ) → ((rank : ℕ) → count rank ≤ more rank) → ((rank : ℕ) → more rank < size) → IsRanked count (size ∷ sizes) ranks → ⊥
not_first count more size sizes ranks less few ranked =
    let first = first_pick count size sizes ranked.picks ranked.picked in
    omega (arith, first.enough, less first.rank, few first.rank)

-- none where, without one rank, no other comes so often as the second of them
not_second : (count more : ℕ → ℕ) (big small top : ℕ) (sizes ranks : List ℕ) → small ≤ big → ((rank : ℕ) → count rank ≤ more rank) → ((rank : ℕ) → left_out more top rank < small) → IsRanked count (big ∷ small ∷ sizes) ranks → ⊥
not_second count more big small top sizes ranks order less few ranked =
    let first = first_pick count big (small ∷ sizes) ranked.picks ranked.picked in
    let second = first_pick (left_out count first.rank) small sizes first.rest first.after in
    elim (cases_eq first.rank top) [
      | inl same ↦
          let P : ℕ → Type 0 = λ n. left_out more n second.rank < small in
          let fewer : left_out more first.rank second.rank < small = subst P (sym same) (few second.rank) in
          omega (arith, second.enough, left_out-upto count more first.rank less second.rank, fewer)
      | inr differ ↦ omega (arith, first.enough, less first.rank, few first.rank, left_out-kept more top first.rank differ)
    ]

pub no_four : (cards five : List ℕ) → IsSeven cards → ((rank : ℕ) → rank_count cards rank < 4) → IsFiveOf cards five → (worth_of_five five).category ≡ 7 → ⊥
no_four cards five seven few chosen same = not_first (at_rank (counts_of five)) (rank_count cards) 4 (1 ∷ []) (worth_of_five five).ranks (upto cards five chosen) few (read_at cards five 7 seven chosen same)

pub no_full_house : (cards five : List ℕ) (top : ℕ) → IsSeven cards → ((rank : ℕ) → left_out (rank_count cards) top rank < 2) → IsFiveOf cards five → (worth_of_five five).category ≡ 6 → ⊥
no_full_house cards five top seven few chosen same = not_second (at_rank (counts_of five)) (rank_count cards) 3 2 top [] (worth_of_five five).ranks (omega arith) (upto cards five chosen) few (read_at cards five 6 seven chosen same)

pub no_three_for_house : (cards five : List ℕ) → IsSeven cards → ((rank : ℕ) → rank_count cards rank < 3) → IsFiveOf cards five → (worth_of_five five).category ≡ 6 → ⊥
no_three_for_house cards five seven few chosen same = not_first (at_rank (counts_of five)) (rank_count cards) 3 (2 ∷ []) (worth_of_five five).ranks (upto cards five chosen) few (read_at cards five 6 seven chosen same)

pub no_three : (cards five : List ℕ) → IsSeven cards → ((rank : ℕ) → rank_count cards rank < 3) → IsFiveOf cards five → (worth_of_five five).category ≡ 3 → ⊥
no_three cards five seven few chosen same = not_first (at_rank (counts_of five)) (rank_count cards) 3 (1 ∷ 1 ∷ []) (worth_of_five five).ranks (upto cards five chosen) few (read_at cards five 3 seven chosen same)

pub no_two_pairs : (cards five : List ℕ) (top : ℕ) → IsSeven cards → ((rank : ℕ) → left_out (rank_count cards) top rank < 2) → IsFiveOf cards five → (worth_of_five five).category ≡ 2 → ⊥
no_two_pairs cards five top seven few chosen same = not_second (at_rank (counts_of five)) (rank_count cards) 2 2 top (1 ∷ []) (worth_of_five five).ranks (omega arith) (upto cards five chosen) few (read_at cards five 2 seven chosen same)

pub no_pair_at_all : (cards five : List ℕ) → IsSeven cards → ((rank : ℕ) → rank_count cards rank < 2) → IsFiveOf cards five → (worth_of_five five).category ≡ 2 → ⊥
no_pair_at_all cards five seven few chosen same = not_first (at_rank (counts_of five)) (rank_count cards) 2 (2 ∷ 1 ∷ []) (worth_of_five five).ranks (upto cards five chosen) few (read_at cards five 2 seven chosen same)

pub no_pair : (cards five : List ℕ) → IsSeven cards → ((rank : ℕ) → rank_count cards rank < 2) → IsFiveOf cards five → (worth_of_five five).category ≡ 1 → ⊥
no_pair cards five seven few chosen same = not_first (at_rank (counts_of five)) (rank_count cards) 2 (1 ∷ 1 ∷ 1 ∷ []) (worth_of_five five).ranks (upto cards five chosen) few (read_at cards five 1 seven chosen same)

-- ---- straights and flushes

all_in_set : (bits : ℕ) (count more : ℕ → ℕ) (ranks : List ℕ) → IsAtLeast bits 1 more → ((rank : ℕ) → count rank ≤ more rank) → AllByRecursion (λ rank. 1 ≤ count rank) ranks → AllByRecursion (λ rank. bit_at bits rank ≡ 1) ranks
all_in_set bits count more [] set less all = tt
all_in_set bits count more (rank ∷ ranks) set less all = (set.present rank (omega (arith, less rank, all.0)), all_in_set bits count more ranks set less all.1)

pub run_in_set : (bits top : ℕ) (count more : ℕ → ℕ) → IsAtLeast bits 1 more → ((rank : ℕ) → count rank ≤ more rank) → IsRunOf count top → IsRun bits top
run_in_set bits top count more set less run = record { least = run.least; most = run.most; present = all_in_set bits count more (straight_ranks top) set less run.present }

pub no_straight_five : (cards five : List ℕ) (bits : ℕ) → IsSeven cards → IsAtLeast bits 1 (rank_count cards) → ((top : ℕ) → IsRun bits top → ⊥) → IsFiveOf cards five → (worth_of_five five).category ≡ 4 → ⊥
no_straight_five cards five bits seven set none chosen same =
    let read : IsStraightRanked (at_rank (counts_of five)) (worth_of_five five).ranks = read_at cards five 4 seven chosen same in
    none read.top (run_in_set bits read.top (at_rank (counts_of five)) (rank_count cards) set (upto cards five chosen) read.run)

-- the suit of a flush is the one that five or more of the cards have
same_suit : (cards five : List ℕ) (suit other : ℕ) → IsSeven cards → 5 ≤ suit_count cards suit → IsFiveOf cards five → suit_count five other ≡ 5 → other ≡ suit
same_suit cards five suit other seven many chosen all =
    elim (cases_eq other suit) [
      | inl same ↦ same
      | inr differ ↦ absurd (omega (arith, two_suits cards other suit differ, seven.count, many, all, chosen_sum (λ card. one_if (suit_of card == other)) cards five chosen))
    ]

pub flush_ranks : (cards five : List ℕ) (suit : ℕ) → IsSeven cards → 5 ≤ suit_count cards suit → IsFiveOf cards five → is_flush five ≡ true → (rank : ℕ) → at_rank (counts_of five) rank ≤ suited_count cards suit rank
flush_ranks cards five suit seven many chosen flush rank =
    let it = suit_of_flush five flush in
    let same : it.suit ≡ suit = same_suit cards five suit it.suit seven many chosen it.all in
    let P : ℕ → Type 0 = λ n. rank_count five rank ≤ suited_count cards n rank in
    let within : rank_count five rank ≤ suited_count cards suit rank = subst P same (in_suit cards five it.suit chosen it.all rank) in
    omega (arith, at_rank-le five rank)

pub no_straight_flush : (cards five : List ℕ) (suit bits : ℕ) → IsSeven cards → 5 ≤ suit_count cards suit → IsAtLeast bits 1 (suited_count cards suit) → ((top : ℕ) → IsRun bits top → ⊥) → IsFiveOf cards five → (worth_of_five five).category ≡ 8 → ⊥
no_straight_flush cards five suit bits seven many set none chosen same =
    let read : (is_flush five ≡ true) × IsStraightRanked (at_rank (counts_of five)) (worth_of_five five).ranks = read_at cards five 8 seven chosen same in
    none read.1.top (run_in_set bits read.1.top (at_rank (counts_of five)) (suited_count cards suit) set (flush_ranks cards five suit seven many chosen read.0) read.1.run)

no_flush : (cards five : List ℕ) → ((suit : ℕ) → suit < 4 → suit_count cards suit < 5) → IsFiveOf cards five → is_flush five ≡ true → ⊥
no_flush cards five few chosen flush =
    let it = suit_of_flush five flush in
    omega (arith, few it.suit it.low, it.all, chosen_sum (λ card. one_if (suit_of card == it.suit)) cards five chosen)

pub no_flush_five : (cards five : List ℕ) → IsSeven cards → ((suit : ℕ) → suit < 4 → suit_count cards suit < 5) → IsFiveOf cards five → (worth_of_five five).category ≡ 5 → ⊥
no_flush_five cards five seven few chosen same =
    let read : (is_flush five ≡ true) × IsRanked (at_rank (counts_of five)) (1 ∷ 1 ∷ 1 ∷ 1 ∷ 1 ∷ []) (worth_of_five five).ranks = read_at cards five 5 seven chosen same in
    no_flush cards five few chosen read.0

pub no_flush_straight : (cards five : List ℕ) → IsSeven cards → ((suit : ℕ) → suit < 4 → suit_count cards suit < 5) → IsFiveOf cards five → (worth_of_five five).category ≡ 8 → ⊥
no_flush_straight cards five seven few chosen same =
    let read : (is_flush five ≡ true) × IsStraightRanked (at_rank (counts_of five)) (worth_of_five five).ranks = read_at cards five 8 seven chosen same in
    no_flush cards five few chosen read.0

-- ---- none of this category is worth more

pub level_ranked : (count more : ℕ → ℕ) (sizes ranks best : List ℕ) → ((rank : ℕ) → count rank ≤ more rank) → IsGreedy more sizes best → IsRanked count sizes ranks → is_gt (slice_cmp nat_cmp ranks (expand sizes best)) ≡ false
level_ranked count more sizes ranks best less greedy ranked =
    ap (λ (xs : List ℕ). is_gt (slice_cmp nat_cmp xs (expand sizes best))) ranked.are ∙ greedy_is_greatest sizes ranked.picks best count more less ranked.picked greedy

top_cmp : (x y : ℕ) → x ≤ y → is_gt (slice_cmp nat_cmp (x ∷ 0 ∷ 0 ∷ 0 ∷ 0 ∷ []) (y ∷ 0 ∷ 0 ∷ 0 ∷ 0 ∷ [])) ≡ false
top_cmp x y most =
    elim (cases_lt x y) [
      | inl less ↦ cmp_less x y (0 ∷ 0 ∷ 0 ∷ 0 ∷ []) (0 ∷ 0 ∷ 0 ∷ 0 ∷ []) less
      | inr level ↦ ap is_gt (cmp_same x y (0 ∷ 0 ∷ 0 ∷ 0 ∷ []) (0 ∷ 0 ∷ 0 ∷ 0 ∷ []) (omega arith))
    ]

pub level_straight : (bits top : ℕ) (count more : ℕ → ℕ) (ranks : List ℕ) → IsAtLeast bits 1 more → ((rank : ℕ) → count rank ≤ more rank) → IsHighestRun bits top → IsStraightRanked count ranks → is_gt (slice_cmp nat_cmp ranks (top ∷ 0 ∷ 0 ∷ 0 ∷ 0 ∷ [])) ≡ false
level_straight bits top count more ranks set less highest ranked =
    ap (λ (xs : List ℕ). is_gt (slice_cmp nat_cmp xs (top ∷ 0 ∷ 0 ∷ 0 ∷ 0 ∷ []))) ranked.are
    ∙ top_cmp ranked.top top (highest.greatest ranked.top (run_in_set bits ranked.top count more set less ranked.run))
