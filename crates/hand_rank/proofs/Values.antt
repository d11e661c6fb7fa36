-- The best value of seven cards from the sets of their profile, category by category.
use Rattle.std.proofs.Common.{◌≡◌, ◌≢◌, ℕ, zero, suc, ◌+◌, ◌-◌, ◌<◌, ◌≤◌, Bool, true, false, nat_le, List, [], ◌∷◌, ◌++◌, length, Option, Some, None, inl, inr, ◌⊎◌, refl, sym, ◌∙◌, ap, subst, arith}
use Rattle.std.specs.List.{find}
use Rattle.std.proofs.lemmas.Bool.{cases_Bool, cases_eq, cases_lt, cond-true, cond-false, leb-true, leb-false}
use Rattle.hand_rank.specs.Best.{IsFiveOf, IsReached, IsBestOf}
use Rattle.hand_rank.specs.Five.{counts_of, is_flush, worth_of_five, rank_count, suit_count}
use Rattle.hand_rank.specs.Profile.{IsSeven, IsNoneAbove, suited_count}
use Rattle.hand_rank.specs.Ranks.{IsAtLeast, IsHighest, IsWithout, IsRun, IsHighestRun, AreHighest}
use Rattle.hand_rank.specs.Worth.{Worth}
use Rattle.hand_rank.proofs.Bests.{best_from, empty_set, set_without, highest_set, first_greedy, greedy_ones, greedy_last, level_ranked, level_straight, left_past, low_rank, past_ranks, lower, no_four, no_full_house, no_three_for_house, no_three, no_two_pairs, no_pair_at_all, no_pair, no_straight_five, no_straight_flush, no_flush_five, no_flush_straight, none_above_eight, flush_ranks, read_at, upto, four_suits, is_suit}
use Rattle.hand_rank.proofs.Chosen.{IsOrdered}
use Rattle.hand_rank.proofs.Groups.{at_rank, worth}
use Rattle.hand_rank.proofs.Picks.{IsIn, IsGreedy, IsPicked, greedy_is_picked, left_out, left_out-le, left_out-kept, left_out-gone, left_out-total}
use Rattle.hand_rank.proofs.Reached.{reach_four, reach_house, reach_low, reach_flush, reach_straight, reach_straight_flush}
use Rattle.hand_rank.proofs.Reading.{IsRanked, IsStraightRanked}
use Rattle.hand_rank.proofs.Totals.{sum_below, total_count, total_suited, at_most_four, suited_once, suited_le}

-- seven cards together
seven_together : (cards : List ℕ) → IsSeven cards → sum_below 13 (rank_count cards) ≡ 7
seven_together cards seven = total_count cards seven.ranks ∙ seven.count

-- without one rank there are still so many
left_together : (cards : List ℕ) (rank : ℕ) → IsSeven cards → 0 < rank_count cards rank → sum_below 13 (left_out (rank_count cards) rank) + rank_count cards rank ≡ 7
left_together cards rank seven some =
    omega (arith, seven_together cards seven, left_out-total (rank_count cards) rank (low_rank (rank_count cards) rank (past_ranks cards seven) some))

-- the next pick stands below the one before
pair_below : (count : ℕ → ℕ) (size less a b : ℕ) → size ≤ less → 0 < size → ((other : ℕ) → size ≤ count other → other ≤ a) → less ≤ left_out count a b → b < a
pair_below count size less a b order some greatest enough =
    elim (cases_eq b a) [
      | inl same ↦ absurd (omega (arith, ap (left_out count a) same, left_out-gone count a))
      | inr differ ↦ let most : b ≤ a = greatest b (omega (arith, left_out-le count a b)) in omega arith
    ]

next_below : (count : ℕ → ℕ) (a b : ℕ) (sizes ranks : List ℕ) → IsGreedy count (1 ∷ 1 ∷ sizes) (a ∷ b ∷ ranks) → b < a
next_below count a b sizes ranks greedy = pair_below count 1 1 a b (omega arith) (omega arith) greedy.2 greedy.3.1

-- ---- four of a kind

pub best_four : (cards : List ℕ) (fours once others a b : ℕ) → IsSeven cards → IsNoneAbove cards 7 → IsAtLeast fours 4 (rank_count cards) → IsAtLeast once 1 (rank_count cards) → IsHighest fours a → IsWithout once a others → (0 < others → IsHighest others b) → IsBestOf cards (worth 7 (a ∷ a ∷ a ∷ a ∷ b ∷ []))
best_four cards fours once others a b seven above set ones highest fewer kicker =
    let count = rank_count cards in
    let most = highest_set fours 4 a (rank_count cards) set highest in
    let rest : 0 < sum_below 13 (left_out (rank_count cards) a) = omega (arith, left_together cards a seven (omega (arith, most.enough)), at_most_four cards a seven.distinct) in
    let greedy : IsGreedy (rank_count cards) (4 ∷ 1 ∷ []) (a ∷ b ∷ []) =
    first_greedy fours 4 a (rank_count cards) (1 ∷ []) (b ∷ []) (omega arith) set highest
    (greedy_last others b (left_out (rank_count cards) a) kicker (set_without once 1 a others (rank_count cards) (omega arith) ones fewer) rest) in
    best_from cards (a ∷ a ∷ a ∷ a ∷ b ∷ []) 7 above
    (λ five chosen same. level_ranked (at_rank (counts_of five)) (rank_count cards) (4 ∷ 1 ∷ []) (worth_of_five five).ranks (a ∷ b ∷ []) (upto cards five chosen) greedy (read_at cards five 7 seven chosen same))
    (reach_four cards a b seven (greedy_is_picked (rank_count cards) (4 ∷ 1 ∷ []) (a ∷ b ∷ []) greedy))

pub none_above_six : (cards : List ℕ) (fours : ℕ) → IsSeven cards → IsNoneAbove cards 7 → IsAtLeast fours 4 (rank_count cards) → fours ≡ 0 → IsNoneAbove cards 6
none_above_six cards fours seven above set none = lower cards 6 above (λ five chosen same. no_four cards five seven (empty_set fours 4 (rank_count cards) set none) chosen same)

-- ---- full houses

pub best_house : (cards : List ℕ) (threes pairs others a b : ℕ) → IsSeven cards → IsNoneAbove cards 6 → IsAtLeast threes 3 (rank_count cards) → IsAtLeast pairs 2 (rank_count cards) → IsHighest threes a → IsWithout pairs a others → IsHighest others b → IsBestOf cards (worth 6 (a ∷ a ∷ a ∷ b ∷ b ∷ []))
best_house cards threes pairs others a b seven above set twos highest fewer second =
    let greedy : IsGreedy (rank_count cards) (3 ∷ 2 ∷ []) (a ∷ b ∷ []) =
    first_greedy threes 3 a (rank_count cards) (2 ∷ []) (b ∷ []) (omega arith) set highest
    (first_greedy others 2 b (left_out (rank_count cards) a) [] [] (omega arith) (set_without pairs 2 a others (rank_count cards) (omega arith) twos fewer) second tt) in
    best_from cards (a ∷ a ∷ a ∷ b ∷ b ∷ []) 6 above
    (λ five chosen same. level_ranked (at_rank (counts_of five)) (rank_count cards) (3 ∷ 2 ∷ []) (worth_of_five five).ranks (a ∷ b ∷ []) (upto cards five chosen) greedy (read_at cards five 6 seven chosen same))
    (reach_house cards a b seven (greedy_is_picked (rank_count cards) (3 ∷ 2 ∷ []) (a ∷ b ∷ []) greedy))

pub none_above_five : (cards : List ℕ) (pairs others a : ℕ) → IsSeven cards → IsNoneAbove cards 6 → IsAtLeast pairs 2 (rank_count cards) → IsWithout pairs a others → others ≡ 0 → IsNoneAbove cards 5
none_above_five cards pairs others a seven above twos fewer none =
    lower cards 5 above (λ five chosen same. no_full_house cards five a seven (empty_set others 2 (left_out (rank_count cards) a) (set_without pairs 2 a others (rank_count cards) (omega arith) twos fewer) none) chosen same)

pub none_above_five_without : (cards : List ℕ) (threes : ℕ) → IsSeven cards → IsNoneAbove cards 6 → IsAtLeast threes 3 (rank_count cards) → threes ≡ 0 → IsNoneAbove cards 5
none_above_five_without cards threes seven above set none = lower cards 5 above (λ five chosen same. no_three_for_house cards five seven (empty_set threes 3 (rank_count cards) set none) chosen same)

-- ---- three of a kind

-- where no five are a full house, there is no pair beside three cards of a rank
no_pair_beside : (cards : List ℕ) (a : ℕ) → IsSeven cards → IsNoneAbove cards 5 → 3 ≤ rank_count cards a → (rank : ℕ) → left_out (rank_count cards) a rank ≤ 1
no_pair_beside cards a seven above three rank =
    elim (cases_lt (left_out (rank_count cards) a rank) 2) [
      | inl few ↦ omega arith
      | inr pair ↦
          let house = reach_house cards a rank seven (omega arith, three, (omega arith, pair, tt)) in
          let most : (worth_of_five house.five).category ≤ 5 = above house.five house.chosen in
          let six : (worth_of_five house.five).category ≡ 6 = ap (λ (w : Worth). w.category) house.worth_it in
          absurd (omega arith)
    ]

pub best_three : (cards : List ℕ) (threes once others a b c : ℕ) → IsSeven cards → IsNoneAbove cards 3 → IsAtLeast threes 3 (rank_count cards) → IsAtLeast once 1 (rank_count cards) → IsHighest threes a → IsWithout once a others → AreHighest others (b ∷ c ∷ []) → IsBestOf cards (worth 3 (a ∷ a ∷ a ∷ b ∷ c ∷ []))
best_three cards threes once others a b c seven above set ones highest fewer kickers =
    let most = highest_set threes 3 a (rank_count cards) set highest in
    let together = left_together cards a seven (omega (arith, most.enough)) in
    let single : (rank : ℕ) → left_out (rank_count cards) a rank ≤ 1 = no_pair_beside cards a seven (λ five chosen. let low = above five chosen in omega arith) most.enough in
    let past : (rank : ℕ) → 13 ≤ rank → left_out (rank_count cards) a rank ≡ 0 = left_past (rank_count cards) a (past_ranks cards seven) in
    let tail : IsGreedy (left_out (rank_count cards) a) (1 ∷ 1 ∷ []) (b ∷ c ∷ []) =
    greedy_ones others (b ∷ c ∷ []) (left_out (rank_count cards) a) kickers (set_without once 1 a others (rank_count cards) (omega arith) ones fewer) past single (omega (arith, at_most_four cards a seven.distinct)) in
    let greedy : IsGreedy (rank_count cards) (3 ∷ 1 ∷ 1 ∷ []) (a ∷ b ∷ c ∷ []) = first_greedy threes 3 a (rank_count cards) (1 ∷ 1 ∷ []) (b ∷ c ∷ []) (omega arith) set highest tail in
    let low : a < 13 = low_rank (rank_count cards) a (past_ranks cards seven) (omega (arith, most.enough)) in
    let low_b : b < 13 = low_rank (left_out (rank_count cards) a) b past (omega (arith, tail.1)) in
    let below : c < b = next_below (left_out (rank_count cards) a) b c [] [] tail in
    best_from cards (a ∷ a ∷ a ∷ b ∷ c ∷ []) 3 above
    (λ five chosen same. level_ranked (at_rank (counts_of five)) (rank_count cards) (3 ∷ 1 ∷ 1 ∷ []) (worth_of_five five).ranks (a ∷ b ∷ c ∷ []) (upto cards five chosen) greedy (read_at cards five 3 seven chosen same))
    (reach_low cards (3 ∷ 1 ∷ 1 ∷ []) (a ∷ b ∷ c ∷ []) 3 seven (omega arith) above (greedy_is_picked (rank_count cards) (3 ∷ 1 ∷ 1 ∷ []) (a ∷ b ∷ c ∷ []) greedy) refl
    (record { fives = tt; fours = tt; threes = (low, tt); pairs = tt; singles = (low_b, (below, tt)) }) refl refl)

pub none_above_two : (cards : List ℕ) (threes : ℕ) → IsSeven cards → IsNoneAbove cards 3 → IsAtLeast threes 3 (rank_count cards) → threes ≡ 0 → IsNoneAbove cards 2
none_above_two cards threes seven above set none = lower cards 2 above (λ five chosen same. no_three cards five seven (empty_set threes 3 (rank_count cards) set none) chosen same)

-- ---- pairs

pub best_two_pairs : (cards : List ℕ) (threes pairs once lower_pairs others rest a b c : ℕ) → IsSeven cards → IsNoneAbove cards 2 → IsAtLeast threes 3 (rank_count cards) → threes ≡ 0 → IsAtLeast pairs 2 (rank_count cards) → IsAtLeast once 1 (rank_count cards) → IsHighest pairs a → IsWithout pairs a lower_pairs → IsHighest lower_pairs b → IsWithout once a others → IsWithout others b rest → (0 < rest → IsHighest rest c) → IsBestOf cards (worth 2 (a ∷ a ∷ b ∷ b ∷ c ∷ []))
best_two_pairs cards threes pairs once lower_pairs others rest a b c seven above triples none twos ones highest fewer second without_a without_b kicker =
    let count = rank_count cards in
    let few = empty_set threes 3 (rank_count cards) triples none in
    let most = highest_set pairs 2 a (rank_count cards) twos highest in
    let past : (rank : ℕ) → 13 ≤ rank → left_out (rank_count cards) a rank ≡ 0 = left_past (rank_count cards) a (past_ranks cards seven) in
    let lower_set = set_without pairs 2 a lower_pairs (rank_count cards) (omega arith) twos fewer in
    let most_b = highest_set lower_pairs 2 b (left_out (rank_count cards) a) lower_set second in
    let low : a < 13 = low_rank (rank_count cards) a (past_ranks cards seven) (omega (arith, most.enough)) in
    let low_b : b < 13 = low_rank (left_out (rank_count cards) a) b past (omega (arith, most_b.enough)) in
    let some : 0 < sum_below 13 (left_out (left_out (rank_count cards) a) b) =
    omega (arith, left_together cards a seven (omega (arith, most.enough)), left_out-total (left_out (rank_count cards) a) b low_b, few a, few b, left_out-le (rank_count cards) a b) in
    let ones_left = set_without others 1 b rest (left_out (rank_count cards) a) (omega arith) (set_without once 1 a others (rank_count cards) (omega arith) ones without_a) without_b in
    let last : IsGreedy (left_out (left_out (rank_count cards) a) b) (1 ∷ []) (c ∷ []) = greedy_last rest c (left_out (left_out (rank_count cards) a) b) kicker ones_left some in
    let tail : IsGreedy (left_out (rank_count cards) a) (2 ∷ 1 ∷ []) (b ∷ c ∷ []) = first_greedy lower_pairs 2 b (left_out (rank_count cards) a) (1 ∷ []) (c ∷ []) (omega arith) lower_set second last in
    let greedy : IsGreedy (rank_count cards) (2 ∷ 2 ∷ 1 ∷ []) (a ∷ b ∷ c ∷ []) = first_greedy pairs 2 a (rank_count cards) (2 ∷ 1 ∷ []) (b ∷ c ∷ []) (omega arith) twos highest tail in
    let below : b < a = pair_below (rank_count cards) 2 2 a b (omega arith) (omega arith) (λ other enough. most.greatest other enough) most_b.enough in
    let low_c : c < 13 = low_rank (left_out (left_out (rank_count cards) a) b) c (left_past (left_out (rank_count cards) a) b past) (omega (arith, last.1)) in
    best_from cards (a ∷ a ∷ b ∷ b ∷ c ∷ []) 2 above
    (λ five chosen same. level_ranked (at_rank (counts_of five)) (rank_count cards) (2 ∷ 2 ∷ 1 ∷ []) (worth_of_five five).ranks (a ∷ b ∷ c ∷ []) (upto cards five chosen) greedy (read_at cards five 2 seven chosen same))
    (reach_low cards (2 ∷ 2 ∷ 1 ∷ []) (a ∷ b ∷ c ∷ []) 2 seven (omega arith) above (greedy_is_picked (rank_count cards) (2 ∷ 2 ∷ 1 ∷ []) (a ∷ b ∷ c ∷ []) greedy) refl
    (record { fives = tt; fours = tt; threes = tt; pairs = (low, (below, tt)); singles = (low_c, tt) }) refl refl)

pub best_pair : (cards : List ℕ) (threes pairs once lower_pairs others a b c d : ℕ) → IsSeven cards → IsNoneAbove cards 2 → IsAtLeast threes 3 (rank_count cards) → threes ≡ 0 → IsAtLeast pairs 2 (rank_count cards) → IsAtLeast once 1 (rank_count cards) → IsHighest pairs a → IsWithout pairs a lower_pairs → lower_pairs ≡ 0 → IsWithout once a others → AreHighest others (b ∷ c ∷ d ∷ []) → IsBestOf cards (worth 1 (a ∷ a ∷ b ∷ c ∷ d ∷ []))
best_pair cards threes pairs once lower_pairs others a b c d seven above_two triples none twos ones highest fewer no_second without_a kickers =
    let few = empty_set threes 3 (rank_count cards) triples none in
    let most = highest_set pairs 2 a (rank_count cards) twos highest in
    let past : (rank : ℕ) → 13 ≤ rank → left_out (rank_count cards) a rank ≡ 0 = left_past (rank_count cards) a (past_ranks cards seven) in
    let single = empty_set lower_pairs 2 (left_out (rank_count cards) a) (set_without pairs 2 a lower_pairs (rank_count cards) (omega arith) twos fewer) no_second in
    let above : IsNoneAbove cards 1 = lower cards 1 above_two (λ five chosen same. no_two_pairs cards five a seven single chosen same) in
    let low : a < 13 = low_rank (rank_count cards) a (past_ranks cards seven) (omega (arith, most.enough)) in
    let tail : IsGreedy (left_out (rank_count cards) a) (1 ∷ 1 ∷ 1 ∷ []) (b ∷ c ∷ d ∷ []) =
    greedy_ones others (b ∷ c ∷ d ∷ []) (left_out (rank_count cards) a) kickers (set_without once 1 a others (rank_count cards) (omega arith) ones without_a) past (λ rank. let less = single rank in omega arith) (omega (arith, left_together cards a seven (omega (arith, most.enough)), few a)) in
    let greedy : IsGreedy (rank_count cards) (2 ∷ 1 ∷ 1 ∷ 1 ∷ []) (a ∷ b ∷ c ∷ d ∷ []) = first_greedy pairs 2 a (rank_count cards) (1 ∷ 1 ∷ 1 ∷ []) (b ∷ c ∷ d ∷ []) (omega arith) twos highest tail in
    let low_b : b < 13 = low_rank (left_out (rank_count cards) a) b past (omega (arith, tail.1)) in
    let below_b : c < b = next_below (left_out (rank_count cards) a) b c (1 ∷ []) (d ∷ []) tail in
    let below_c : d < c = next_below (left_out (left_out (rank_count cards) a) b) c d [] [] tail.3 in
    best_from cards (a ∷ a ∷ b ∷ c ∷ d ∷ []) 1 above
    (λ five chosen same. level_ranked (at_rank (counts_of five)) (rank_count cards) (2 ∷ 1 ∷ 1 ∷ 1 ∷ []) (worth_of_five five).ranks (a ∷ b ∷ c ∷ d ∷ []) (upto cards five chosen) greedy (read_at cards five 1 seven chosen same))
    (reach_low cards (2 ∷ 1 ∷ 1 ∷ 1 ∷ []) (a ∷ b ∷ c ∷ d ∷ []) 1 seven (omega arith) above (greedy_is_picked (rank_count cards) (2 ∷ 1 ∷ 1 ∷ 1 ∷ []) (a ∷ b ∷ c ∷ d ∷ []) greedy) refl
    (record { fives = tt; fours = tt; threes = tt; pairs = (low, tt); singles = (low_b, (below_b, (below_c, tt))) }) refl refl)

-- ---- single cards

-- five single cards, and each below the one before
pub record AreFive (count : ℕ → ℕ) (a b c d e : ℕ) : Type 0 where
  pub greedy : IsGreedy count (1 ∷ 1 ∷ 1 ∷ 1 ∷ 1 ∷ []) (a ∷ b ∷ c ∷ d ∷ e ∷ [])
  pub ordered : IsOrdered (1 ∷ 1 ∷ 1 ∷ 1 ∷ 1 ∷ []) (a ∷ b ∷ c ∷ d ∷ e ∷ [])

five_singles : (bits a b c d e : ℕ) (count : ℕ → ℕ) → IsAtLeast bits 1 count → AreHighest bits (a ∷ b ∷ c ∷ d ∷ e ∷ []) → ((rank : ℕ) → 13 ≤ rank → count rank ≡ 0) → ((rank : ℕ) → count rank ≤ 1) → 5 ≤ sum_below 13 count → AreFive count a b c d e
five_singles bits a b c d e count set highest past single enough =
    let greedy : IsGreedy count (1 ∷ 1 ∷ 1 ∷ 1 ∷ 1 ∷ []) (a ∷ b ∷ c ∷ d ∷ e ∷ []) = greedy_ones bits (a ∷ b ∷ c ∷ d ∷ e ∷ []) count highest set past single enough in
    let low : a < 13 = low_rank count a past (omega (arith, greedy.1)) in
    let below_a : b < a = next_below count a b (1 ∷ 1 ∷ 1 ∷ []) (c ∷ d ∷ e ∷ []) greedy in
    let below_b : c < b = next_below (left_out count a) b c (1 ∷ 1 ∷ []) (d ∷ e ∷ []) greedy.3 in
    let below_c : d < c = next_below (left_out (left_out count a) b) c d (1 ∷ []) (e ∷ []) greedy.3.3 in
    let below_d : e < d = next_below (left_out (left_out (left_out count a) b) c) d e [] [] greedy.3.3.3 in
    record { greedy = greedy; ordered = record { fives = tt; fours = tt; threes = tt; pairs = tt; singles = (low, (below_a, (below_b, (below_c, (below_d, tt))))) } }

pub best_high_card : (cards : List ℕ) (pairs once a b c d e : ℕ) → IsSeven cards → IsNoneAbove cards 2 → IsAtLeast pairs 2 (rank_count cards) → pairs ≡ 0 → IsAtLeast once 1 (rank_count cards) → AreHighest once (a ∷ b ∷ c ∷ d ∷ e ∷ []) → IsBestOf cards (worth 0 (a ∷ b ∷ c ∷ d ∷ e ∷ []))
best_high_card cards pairs once a b c d e seven above_two twos none ones highest =
    let few = empty_set pairs 2 (rank_count cards) twos none in
    let above_one : IsNoneAbove cards 1 = lower cards 1 above_two (λ five chosen same. no_pair_at_all cards five seven few chosen same) in
    let above : IsNoneAbove cards 0 = lower cards 0 above_one (λ five chosen same. no_pair cards five seven few chosen same) in
    let five_of = five_singles once a b c d e (rank_count cards) ones highest (past_ranks cards seven) (λ rank. let less = few rank in omega arith) (omega (arith, seven_together cards seven)) in
    best_from cards (a ∷ b ∷ c ∷ d ∷ e ∷ []) 0 above
    (λ five chosen same. level_ranked (at_rank (counts_of five)) (rank_count cards) (1 ∷ 1 ∷ 1 ∷ 1 ∷ 1 ∷ []) (worth_of_five five).ranks (a ∷ b ∷ c ∷ d ∷ e ∷ []) (upto cards five chosen) five_of.greedy (read_at cards five 0 seven chosen same))
    (reach_low cards (1 ∷ 1 ∷ 1 ∷ 1 ∷ 1 ∷ []) (a ∷ b ∷ c ∷ d ∷ e ∷ []) 0 seven (omega arith) above (greedy_is_picked (rank_count cards) (1 ∷ 1 ∷ 1 ∷ 1 ∷ 1 ∷ []) (a ∷ b ∷ c ∷ d ∷ e ∷ []) five_of.greedy) refl five_of.ordered refl refl)

-- ---- flushes and straights

pub best_flush : (cards : List ℕ) (suit suited a b c d e : ℕ) → IsSeven cards → suit < 4 → 5 ≤ suit_count cards suit → IsNoneAbove cards 5 → IsAtLeast suited 1 (suited_count cards suit) → AreHighest suited (a ∷ b ∷ c ∷ d ∷ e ∷ []) → IsBestOf cards (worth 5 (a ∷ b ∷ c ∷ d ∷ e ∷ []))
best_flush cards suit suited a b c d e seven low many above set highest =
    let five_of = five_singles suited a b c d e (suited_count cards suit) set highest
    (λ rank past. omega (arith, suited_le cards suit rank, past_ranks cards seven rank past))
    (λ rank. suited_once cards suit rank seven.distinct low)
    (omega (arith, total_suited cards suit seven.ranks, many)) in
    best_from cards (a ∷ b ∷ c ∷ d ∷ e ∷ []) 5 above
    (λ five chosen same.
    let read : (is_flush five ≡ true) × IsRanked (at_rank (counts_of five)) (1 ∷ 1 ∷ 1 ∷ 1 ∷ 1 ∷ []) (worth_of_five five).ranks = read_at cards five 5 seven chosen same in
    level_ranked (at_rank (counts_of five)) (suited_count cards suit) (1 ∷ 1 ∷ 1 ∷ 1 ∷ 1 ∷ []) (worth_of_five five).ranks (a ∷ b ∷ c ∷ d ∷ e ∷ []) (flush_ranks cards five suit seven many chosen read.0) five_of.greedy read.1)
    (reach_flush cards suit a b c d e seven low above (greedy_is_picked (suited_count cards suit) (1 ∷ 1 ∷ 1 ∷ 1 ∷ 1 ∷ []) (a ∷ b ∷ c ∷ d ∷ e ∷ []) five_of.greedy) five_of.ordered)

pub best_straight : (cards : List ℕ) (once top : ℕ) → IsSeven cards → IsNoneAbove cards 4 → IsAtLeast once 1 (rank_count cards) → IsHighestRun once top → IsBestOf cards (worth 4 (top ∷ 0 ∷ 0 ∷ 0 ∷ 0 ∷ []))
best_straight cards once top seven above set highest =
    best_from cards (top ∷ 0 ∷ 0 ∷ 0 ∷ 0 ∷ []) 4 above
    (λ five chosen same. level_straight once top (at_rank (counts_of five)) (rank_count cards) (worth_of_five five).ranks set (upto cards five chosen) highest (read_at cards five 4 seven chosen same))
    (reach_straight cards once top seven above set highest)

pub none_above_three : (cards : List ℕ) (once : ℕ) → IsSeven cards → IsNoneAbove cards 4 → IsAtLeast once 1 (rank_count cards) → ((top : ℕ) → IsRun once top → ⊥) → IsNoneAbove cards 3
none_above_three cards once seven above set none = lower cards 3 above (λ five chosen same. no_straight_five cards five once seven set none chosen same)

pub none_above_four : (cards : List ℕ) → IsSeven cards → IsNoneAbove cards 5 → ((suit : ℕ) → suit < 4 → suit_count cards suit < 5) → IsNoneAbove cards 4
none_above_four cards seven above few = lower cards 4 above (λ five chosen same. no_flush_five cards five seven few chosen same)

pub none_above_seven : (cards : List ℕ) → IsSeven cards → ((suit : ℕ) → suit < 4 → suit_count cards suit < 5) → IsNoneAbove cards 7
none_above_seven cards seven few = lower cards 7 (none_above_eight cards seven) (λ five chosen same. no_flush_straight cards five seven few chosen same)

pub best_straight_flush : (cards : List ℕ) (suit suited top : ℕ) → IsSeven cards → suit < 4 → 5 ≤ suit_count cards suit → IsAtLeast suited 1 (suited_count cards suit) → IsHighestRun suited top → IsBestOf cards (worth 8 (top ∷ 0 ∷ 0 ∷ 0 ∷ 0 ∷ []))
best_straight_flush cards suit suited top seven low many set highest =
    best_from cards (top ∷ 0 ∷ 0 ∷ 0 ∷ 0 ∷ []) 8 (none_above_eight cards seven)
    (λ five chosen same.
    let read : (is_flush five ≡ true) × IsStraightRanked (at_rank (counts_of five)) (worth_of_five five).ranks = read_at cards five 8 seven chosen same in
    level_straight suited top (at_rank (counts_of five)) (suited_count cards suit) (worth_of_five five).ranks set (flush_ranks cards five suit seven many chosen read.0) highest read.1)
    (reach_straight_flush cards suit suited top seven low many set highest)

pub none_above_seven_with : (cards : List ℕ) (suit suited : ℕ) → IsSeven cards → 5 ≤ suit_count cards suit → IsAtLeast suited 1 (suited_count cards suit) → ((top : ℕ) → IsRun suited top → ⊥) → IsNoneAbove cards 7
none_above_seven_with cards suit suited seven many set none = lower cards 7 (none_above_eight cards seven) (λ five chosen same. no_straight_flush cards five suit suited seven many set none chosen same)

-- ---- ranks in a list

pub best_high_cards : (cards ranks : List ℕ) (pairs once : ℕ) → length ranks ≡ 5 → IsSeven cards → IsNoneAbove cards 2 → IsAtLeast pairs 2 (rank_count cards) → pairs ≡ 0 → IsAtLeast once 1 (rank_count cards) → AreHighest once ranks → IsBestOf cards (worth 0 ranks)
best_high_cards cards (a ∷ b ∷ c ∷ d ∷ e ∷ []) pairs once five seven above twos none ones highest = best_high_card cards pairs once a b c d e seven above twos none ones highest
best_high_cards cards [] pairs once five seven above twos none ones _ = absurd (omega arith)
best_high_cards cards (a ∷ []) pairs once five seven above twos none ones _ = absurd (omega arith)
best_high_cards cards (a ∷ b ∷ []) pairs once five seven above twos none ones _ = absurd (omega arith)
best_high_cards cards (a ∷ b ∷ c ∷ []) pairs once five seven above twos none ones _ = absurd (omega arith)
best_high_cards cards (a ∷ b ∷ c ∷ d ∷ []) pairs once five seven above twos none ones _ = absurd (omega arith)
best_high_cards cards (a ∷ b ∷ c ∷ d ∷ e ∷ f ∷ rest) pairs once five seven above twos none ones _ = absurd (omega arith)

pub best_flush_ranks : (cards ranks : List ℕ) (suit suited : ℕ) → length ranks ≡ 5 → IsSeven cards → suit < 4 → 5 ≤ suit_count cards suit → IsNoneAbove cards 5 → IsAtLeast suited 1 (suited_count cards suit) → AreHighest suited ranks → IsBestOf cards (worth 5 ranks)
best_flush_ranks cards (a ∷ b ∷ c ∷ d ∷ e ∷ []) suit suited five seven low many above set highest = best_flush cards suit suited a b c d e seven low many above set highest
best_flush_ranks cards [] suit suited five seven low many above set _ = absurd (omega arith)
best_flush_ranks cards (a ∷ []) suit suited five seven low many above set _ = absurd (omega arith)
best_flush_ranks cards (a ∷ b ∷ []) suit suited five seven low many above set _ = absurd (omega arith)
best_flush_ranks cards (a ∷ b ∷ c ∷ []) suit suited five seven low many above set _ = absurd (omega arith)
best_flush_ranks cards (a ∷ b ∷ c ∷ d ∷ []) suit suited five seven low many above set _ = absurd (omega arith)
best_flush_ranks cards (a ∷ b ∷ c ∷ d ∷ e ∷ f ∷ rest) suit suited five seven low many above set _ = absurd (omega arith)

-- ---- the suit that is found

-- a suit of five or more
pub record IsFlushSuit (cards : List ℕ) (suit : ℕ) : Type 0 where
  pub low : suit < 4
  pub many : 5 ≤ suit_count cards suit

suit_in : (p : ℕ → Bool) (suits : List ℕ) (suit : ℕ) → find p suits ≡ Some suit → (p suit ≡ true) × IsIn suit suits
suit_in p [] suit e = absurd (cc)
suit_in p (x ∷ xs) suit e =
    elim (cases_Bool (p x)) [
      | inl good ↦
          let both : Some x ≡ Some suit = sym (cond-true (p x) (Some x) (find p xs) good) ∙ e in
          let same : x ≡ suit = cc in
          (ap p (sym same) ∙ good, inl (sym same))
      | inr bad ↦
          let later = suit_in p xs suit (sym (cond-false (p x) (Some x) (find p xs) bad) ∙ e) in
          (later.0, inr later.1)
    ]

none_passes : (p : ℕ → Bool) (suits : List ℕ) (suit : ℕ) → find p suits ≡ None → IsIn suit suits → p suit ≡ false
none_passes p [] suit e within = absurd within
none_passes p (x ∷ xs) suit e within =
    elim (cases_Bool (p x)) [
      | inl good ↦ absurd (let both : Some x ≡ None = sym (cond-true (p x) (Some x) (find p xs) good) ∙ e in cc)
      | inr bad ↦ elim within [
        | inl same ↦ ap p same ∙ bad
        | inr later ↦ none_passes p xs suit (sym (cond-false (p x) (Some x) (find p xs) bad) ∙ e) later
      ]
    ]

pub found_suit : (cards : List ℕ) (suit : ℕ) → find (λ other. nat_le 5 (suit_count cards other)) (0 ∷ 1 ∷ 2 ∷ 3 ∷ []) ≡ Some suit → IsFlushSuit cards suit
found_suit cards suit e =
    let it = suit_in (λ other. nat_le 5 (suit_count cards other)) (0 ∷ 1 ∷ 2 ∷ 3 ∷ []) suit e in
    record { low = four_suits suit it.1; many = leb-true 5 (suit_count cards suit) it.0 }

pub no_suit : (cards : List ℕ) → find (λ other. nat_le 5 (suit_count cards other)) (0 ∷ 1 ∷ 2 ∷ 3 ∷ []) ≡ None → (suit : ℕ) → suit < 4 → suit_count cards suit < 5
no_suit cards e suit low = leb-false 5 (suit_count cards suit) (none_passes (λ other. nat_le 5 (suit_count cards other)) (0 ∷ 1 ∷ 2 ∷ 3 ∷ []) suit e (is_suit suit low))
