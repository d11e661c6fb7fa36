-- The nine categories with their neighbours, the order of worths, and the best of several cards.
use Rattle.std.proofs.Common.{◌≡◌, ℕ, List, [], ◌∷◌, refl, true, false, arith, cond, eqb, Some, None, lit<}
use Rattle.std.specs.declared.cmp.Ordering.TheVariants.{Less, Equal, Greater}
use Rattle.std.proofs.lemmas.List.Sorted.{IsPermutation-refl, IsPermutation-reverse, sum_by-IsPermutation}
use Rattle.std.proofs.lemmas.List.Sums.{sum_by_from}
use Rattle.std.specs.List.{sum_by}
use Rattle.std.specs.List.Sorted.{IsPermutation}
use Rattle.hand_rank.specs.Best.{IsFiveOf, IsReached, IsBestOf, IsAtLeastWithout, IsBestLeavingOut}
use Rattle.hand_rank.specs.Five.{worth_of_five, counts_of, is_flush, straight_top, groups_of, category_of, ranks_coming, by_count_then_height, deciding_ranks}
use Rattle.hand_rank.specs.Worth.{Worth, worth_cmp}
use Rattle.hand_rank.proofs.Greatest.{best_of_five, best_of_one, left_out_below}

abbrev pub worth : ℕ → List ℕ → Worth
worth category ranks = record { category = category; ranks = ranks }

-- Kc Jd 9h 5s 2c
pub high_card : worth_of_five (44 ∷ 37 ∷ 30 ∷ 15 ∷ 0 ∷ []) ≡ worth 0 (11 ∷ 9 ∷ 7 ∷ 3 ∷ 0 ∷ [])
unfolding worth_of_five counts_of is_flush straight_top groups_of category_of ranks_coming by_count_then_height deciding_ranks
high_card = refl

-- Qc Kd Ah 2s 3c: no straight goes round over the ace
pub round_the_ace : worth_of_five (40 ∷ 45 ∷ 50 ∷ 3 ∷ 4 ∷ []) ≡ worth 0 (12 ∷ 11 ∷ 10 ∷ 1 ∷ 0 ∷ [])
unfolding worth_of_five counts_of is_flush straight_top groups_of category_of ranks_coming by_count_then_height deciding_ranks
round_the_ace = refl

-- Ah 2c 2d Ks Qc
pub pair_of_twos : worth_of_five (50 ∷ 0 ∷ 1 ∷ 47 ∷ 40 ∷ []) ≡ worth 1 (0 ∷ 0 ∷ 12 ∷ 11 ∷ 10 ∷ [])
unfolding worth_of_five counts_of is_flush straight_top groups_of category_of ranks_coming by_count_then_height deciding_ranks
pair_of_twos = refl

-- Qc Kc Kd Ac Ad: of two pairs the higher one first
pub two_pairs : worth_of_five (40 ∷ 44 ∷ 45 ∷ 48 ∷ 49 ∷ []) ≡ worth 2 (12 ∷ 12 ∷ 11 ∷ 11 ∷ 10 ∷ [])
unfolding worth_of_five counts_of is_flush straight_top groups_of category_of ranks_coming by_count_then_height deciding_ranks
two_pairs = refl

-- Kc As 2c 2d 2h
pub three_twos : worth_of_five (44 ∷ 51 ∷ 0 ∷ 1 ∷ 2 ∷ []) ≡ worth 3 (0 ∷ 0 ∷ 0 ∷ 12 ∷ 11 ∷ [])
unfolding worth_of_five counts_of is_flush straight_top groups_of category_of ranks_coming by_count_then_height deciding_ranks
three_twos = refl

-- Ac 2d 3h 4s 5c: the ace below the two, the five on top
pub wheel : worth_of_five (48 ∷ 1 ∷ 6 ∷ 11 ∷ 12 ∷ []) ≡ worth 4 (3 ∷ 0 ∷ 0 ∷ 0 ∷ 0 ∷ [])
unfolding worth_of_five counts_of is_flush straight_top groups_of category_of ranks_coming by_count_then_height deciding_ranks
wheel = refl

-- 2d 3h 4s 5c 6c
pub six_high_straight : worth_of_five (1 ∷ 6 ∷ 11 ∷ 12 ∷ 16 ∷ []) ≡ worth 4 (4 ∷ 0 ∷ 0 ∷ 0 ∷ 0 ∷ [])
unfolding worth_of_five counts_of is_flush straight_top groups_of category_of ranks_coming by_count_then_height deciding_ranks
six_high_straight = refl

-- Tc Jd Qh Ks Ac
pub ace_high_straight : worth_of_five (32 ∷ 37 ∷ 42 ∷ 47 ∷ 48 ∷ []) ≡ worth 4 (12 ∷ 0 ∷ 0 ∷ 0 ∷ 0 ∷ [])
unfolding worth_of_five counts_of is_flush straight_top groups_of category_of ranks_coming by_count_then_height deciding_ranks
ace_high_straight = refl

-- 2h 5h 9h Jh Ah
pub flush : worth_of_five (2 ∷ 14 ∷ 30 ∷ 38 ∷ 50 ∷ []) ≡ worth 5 (12 ∷ 9 ∷ 7 ∷ 3 ∷ 0 ∷ [])
unfolding worth_of_five counts_of is_flush straight_top groups_of category_of ranks_coming by_count_then_height deciding_ranks
flush = refl

-- 2h 5h 9h Jh As: four of one suit are no flush
pub four_hearts : worth_of_five (2 ∷ 14 ∷ 30 ∷ 38 ∷ 51 ∷ []) ≡ worth 0 (12 ∷ 9 ∷ 7 ∷ 3 ∷ 0 ∷ [])
unfolding worth_of_five counts_of is_flush straight_top groups_of category_of ranks_coming by_count_then_height deciding_ranks
four_hearts = refl

-- Kc Kd Ac Ad Ah
pub full_house : worth_of_five (44 ∷ 45 ∷ 48 ∷ 49 ∷ 50 ∷ []) ≡ worth 6 (12 ∷ 12 ∷ 12 ∷ 11 ∷ 11 ∷ [])
unfolding worth_of_five counts_of is_flush straight_top groups_of category_of ranks_coming by_count_then_height deciding_ranks
full_house = refl

-- Ac 2c 2d 2h 2s
pub four_twos : worth_of_five (48 ∷ 0 ∷ 1 ∷ 2 ∷ 3 ∷ []) ≡ worth 7 (0 ∷ 0 ∷ 0 ∷ 0 ∷ 12 ∷ [])
unfolding worth_of_five counts_of is_flush straight_top groups_of category_of ranks_coming by_count_then_height deciding_ranks
four_twos = refl

-- As 2s 3s 4s 5s
pub five_high_straight_flush : worth_of_five (51 ∷ 3 ∷ 7 ∷ 11 ∷ 15 ∷ []) ≡ worth 8 (3 ∷ 0 ∷ 0 ∷ 0 ∷ 0 ∷ [])
unfolding worth_of_five counts_of is_flush straight_top groups_of category_of ranks_coming by_count_then_height deciding_ranks
five_high_straight_flush = refl

-- a pair of twos beats the highest cards
pub pair_above_high_card : worth_cmp (worth 1 (0 ∷ 0 ∷ 3 ∷ 2 ∷ 1 ∷ [])) (worth 0 (12 ∷ 11 ∷ 10 ∷ 9 ∷ 7 ∷ [])) ≡ Greater
pair_above_high_card = refl

-- a full house beats a flush
pub full_house_above_flush : worth_cmp (worth 6 (0 ∷ 0 ∷ 0 ∷ 1 ∷ 1 ∷ [])) (worth 5 (12 ∷ 11 ∷ 10 ∷ 9 ∷ 7 ∷ [])) ≡ Greater
full_house_above_flush = refl

-- the wheel is the lowest straight
pub wheel_below_six_high : worth_cmp (worth 4 (3 ∷ 0 ∷ 0 ∷ 0 ∷ 0 ∷ [])) (worth 4 (4 ∷ 0 ∷ 0 ∷ 0 ∷ 0 ∷ [])) ≡ Less
wheel_below_six_high = refl

-- the pair decides before the other cards
pub higher_pair : worth_cmp (worth 1 (5 ∷ 5 ∷ 3 ∷ 2 ∷ 1 ∷ [])) (worth 1 (4 ∷ 4 ∷ 12 ∷ 11 ∷ 10 ∷ [])) ≡ Greater
higher_pair = refl

-- the last card decides
pub last_card : worth_cmp (worth 0 (12 ∷ 9 ∷ 7 ∷ 3 ∷ 0 ∷ [])) (worth 0 (12 ∷ 9 ∷ 7 ∷ 3 ∷ 1 ∷ [])) ≡ Less
last_card = refl

-- Kd Jc 9s 5h 2d: suits break no tie
pub tie : worth_cmp (worth_of_five (45 ∷ 36 ∷ 31 ∷ 14 ∷ 1 ∷ [])) (worth_of_five (44 ∷ 37 ∷ 30 ∷ 15 ∷ 0 ∷ [])) ≡ Equal
unfolding worth_of_five counts_of is_flush straight_top groups_of category_of ranks_coming by_count_then_height deciding_ranks
tie = refl

-- Ac Ad Kc Kd Qc Qd 2s: three pairs
abbrev pub three_pairs : List ℕ
three_pairs = 48 ∷ 49 ∷ 44 ∷ 45 ∷ 40 ∷ 41 ∷ 3 ∷ []

-- Ac Ad Kc Kd Qc and the two others are the seven
pub aces_and_kings-chosen : IsFiveOf three_pairs (48 ∷ 49 ∷ 44 ∷ 45 ∷ 40 ∷ [])
aces_and_kings-chosen = record { count = refl; others = 41 ∷ 3 ∷ []; together = IsPermutation-refl three_pairs }

-- in any order
pub five_in_another_order-chosen : IsFiveOf three_pairs (3 ∷ 41 ∷ 40 ∷ 45 ∷ 44 ∷ [])
five_in_another_order-chosen = record { count = refl; others = 49 ∷ 48 ∷ []; together = IsPermutation-reverse (3 ∷ 41 ∷ 40 ∷ 45 ∷ 44 ∷ 49 ∷ 48 ∷ []) }

-- four cards are no five
pub four_cards-none : IsFiveOf three_pairs (48 ∷ 49 ∷ 44 ∷ 45 ∷ []) → ⊥
four_cards-none chosen = let count = chosen.count in cc

-- the ace of hearts isn't among the five
pub ace_of_hearts-none : IsFiveOf (48 ∷ 49 ∷ 44 ∷ 45 ∷ 40 ∷ []) (48 ∷ 49 ∷ 44 ∷ 45 ∷ 50 ∷ []) → ⊥
ace_of_hearts-none chosen =
    let aces : ℕ → ℕ = λ card. cond (eqb card 50) 1 0 in
    let all : sum_by aces (48 ∷ 49 ∷ 44 ∷ 45 ∷ 40 ∷ []) ≡ sum_by aces (48 ∷ 49 ∷ 44 ∷ 45 ∷ 50 ∷ chosen.others) =
    sum_by-IsPermutation aces (48 ∷ 49 ∷ 44 ∷ 45 ∷ 50 ∷ chosen.others) (48 ∷ 49 ∷ 44 ∷ 45 ∷ 40 ∷ []) chosen.together in
    omega (arith, all, sum_by_from aces 1 chosen.others)

-- aces and kings with a queen are reached
pub aces_and_kings : IsReached three_pairs (worth 2 (12 ∷ 12 ∷ 11 ∷ 11 ∷ 10 ∷ []))
unfolding worth_of_five counts_of is_flush straight_top groups_of category_of ranks_coming by_count_then_height deciding_ranks
aces_and_kings = record { five = 48 ∷ 49 ∷ 44 ∷ 45 ∷ 40 ∷ []; chosen = aces_and_kings-chosen; worth_it = refl }

-- kings and queens aren't the best, since aces and kings are worth more
pub kings_and_queens-none : IsBestOf three_pairs (worth 2 (11 ∷ 11 ∷ 10 ∷ 10 ∷ 12 ∷ [])) → ⊥
unfolding worth_of_five counts_of is_flush straight_top groups_of category_of ranks_coming by_count_then_height deciding_ranks
kings_and_queens-none best =
    let above : true ≡ false = best.greatest (48 ∷ 49 ∷ 44 ∷ 45 ∷ 40 ∷ []) aces_and_kings-chosen in cc

-- of five cards the best is their own worth
pub best_of_the_wheel : IsBestOf (48 ∷ 1 ∷ 6 ∷ 11 ∷ 12 ∷ []) (worth 4 (3 ∷ 0 ∷ 0 ∷ 0 ∷ 0 ∷ []))
unfolding worth_of_five counts_of is_flush straight_top groups_of category_of ranks_coming by_count_then_height deciding_ranks
best_of_the_wheel = best_of_five (48 ∷ 1 ∷ 6 ∷ 11 ∷ 12 ∷ []) refl

-- Ac 2d 3h 4s 5c 6c, and the same without the ace
abbrev pub ace_to_six : List ℕ
ace_to_six = 48 ∷ 1 ∷ 6 ∷ 11 ∷ 12 ∷ 16 ∷ []

abbrev pub six_to_two : List ℕ
six_to_two = 16 ∷ 1 ∷ 6 ∷ 11 ∷ 12 ∷ []

without_the_ace : IsPermutation (48 ∷ six_to_two) ace_to_six
without_the_ace = left_out_below ace_to_six (48 ∷ 1 ∷ 6 ∷ 11 ∷ 12 ∷ []) 5 0 16 refl (lit< tt) refl refl

-- with the ace left out the best five are a straight up to the six
pub best_without_the_ace : IsBestLeavingOut ace_to_six 0 1 (worth 4 (4 ∷ 0 ∷ 0 ∷ 0 ∷ 0 ∷ []))
unfolding worth_of_five counts_of is_flush straight_top groups_of category_of ranks_coming by_count_then_height deciding_ranks
best_without_the_ace = best_of_one ace_to_six six_to_two 0 (worth 4 (4 ∷ 0 ∷ 0 ∷ 0 ∷ 0 ∷ [])) without_the_ace (best_of_five six_to_two refl)

-- and no lower one
pub wheel_without_the_ace-none : IsAtLeastWithout ace_to_six (worth 4 (3 ∷ 0 ∷ 0 ∷ 0 ∷ 0 ∷ [])) 0 → ⊥
unfolding worth_of_five counts_of is_flush straight_top groups_of category_of ranks_coming by_count_then_height deciding_ranks
wheel_without_the_ace-none least =
    let above : true ≡ false = least six_to_two six_to_two without_the_ace (record { count = refl; others = []; together = IsPermutation-refl six_to_two }) in cc

-- Ac 2d 3h 4s 5c is the straight with the five on top, and Qc Kd Ah 2s 3c none
pub top_of_the_wheel : straight_top (counts_of (48 ∷ 1 ∷ 6 ∷ 11 ∷ 12 ∷ [])) ≡ Some 3
unfolding counts_of straight_top
top_of_the_wheel = refl

pub no_top_round_the_ace : straight_top (counts_of (40 ∷ 45 ∷ 50 ∷ 3 ∷ 4 ∷ [])) ≡ None
unfolding counts_of straight_top
no_top_round_the_ace = refl

-- Kc Kd Ac Ad Ah: one group of three and one of two
pub group_of_three : groups_of 3 (counts_of (44 ∷ 45 ∷ 48 ∷ 49 ∷ 50 ∷ [])) ≡ 1
unfolding counts_of groups_of
group_of_three = refl

pub group_of_two : groups_of 2 (counts_of (44 ∷ 45 ∷ 48 ∷ 49 ∷ 50 ∷ [])) ≡ 1
unfolding counts_of groups_of
group_of_two = refl
