-- Pots and payoffs of hands of three to five players, chip by chip.
use Rattle.std.proofs.Common.{◌≡◌, ◌<◌, ◌≤◌, lit<, lit≤, ℕ, pos, negsuc, Bool, true, false, Some, None, List, [], ◌∷◌, get_or, zero, suc, refl, sym, ◌∙◌, arith}
use Rattle.hand_rank.specs.Worth.{Worth}
use Rattle.side_pots.specs.Laws.{AtMostOneUnfolded}
use Rattle.side_pots.specs.Amounts.{IsAmount, IsNextAmount, IsLastAmount, lesser, chips_between}
use Rattle.side_pots.specs.Pots.{is_eligible, chips_at, pot_of, opens_pot, is_same_set, is_winner, winners_of, share, won_at, won, payoffs, total}

-- a pair of aces, of kings, of twos
abbrev pub aces : Worth
aces = record { category = 1; ranks = 12 ∷ 12 ∷ 5 ∷ 4 ∷ 3 ∷ [] }

abbrev pub kings : Worth
kings = record { category = 1; ranks = 11 ∷ 11 ∷ 5 ∷ 4 ∷ 3 ∷ [] }

abbrev pub twos : Worth
twos = record { category = 1; ranks = 0 ∷ 0 ∷ 5 ∷ 4 ∷ 3 ∷ [] }

-- ---- one pot of 25 chips of 5, 10 and 10, the first player having folded

abbrev pub one_folded : List Bool
one_folded = true ∷ false ∷ false ∷ []

pub first_level : chips_at (5 ∷ 10 ∷ 10 ∷ []) 5 ≡ 3
first_level = refl

pub sixth_level : chips_at (5 ∷ 10 ∷ 10 ∷ []) 6 ≡ 2
sixth_level = refl

-- the folded player's chips are in it
pub pot_of_25 : pot_of (5 ∷ 10 ∷ 10 ∷ []) one_folded (is_eligible (5 ∷ 10 ∷ 10 ∷ []) one_folded 1) ≡ 25
unfolding pot_of is_eligible
pot_of_25 = refl

-- where the folded player has no more chips no pot begins
pub no_pot_at_six : opens_pot (5 ∷ 10 ∷ 10 ∷ []) one_folded 6 ≡ false
unfolding opens_pot is_eligible
no_pot_at_six = refl

-- split 13 and 12, the odd chip to the first winner
pub split_25 : payoffs (5 ∷ 10 ∷ 10 ∷ []) one_folded (twos ∷ kings ∷ kings ∷ []) ≡ negsuc 4 ∷ pos 3 ∷ pos 2 ∷ []
unfolding won won_at opens_pot pot_of share is_winner is_eligible
split_25 = refl

-- a folded player doesn't win, whatever his cards
pub folded_aces : payoffs (5 ∷ 10 ∷ 10 ∷ []) one_folded (aces ∷ kings ∷ twos ∷ []) ≡ negsuc 4 ∷ pos 15 ∷ negsuc 9 ∷ []
unfolding won won_at opens_pot pot_of share is_winner is_eligible
folded_aces = refl

pub sums_to_zero : total (negsuc 4 ∷ pos 15 ∷ negsuc 9 ∷ []) ≡ pos 0
sums_to_zero = refl

-- ---- two pots, of 9 and of 34 chips: 20, 3 and 20 put in, nobody folded

abbrev pub none_folded : List Bool
none_folded = false ∷ false ∷ false ∷ []

pub main_pot : pot_of (20 ∷ 3 ∷ 20 ∷ []) none_folded (is_eligible (20 ∷ 3 ∷ 20 ∷ []) none_folded 3) ≡ 9
unfolding pot_of is_eligible
main_pot = refl

pub side_pot : pot_of (20 ∷ 3 ∷ 20 ∷ []) none_folded (is_eligible (20 ∷ 3 ∷ 20 ∷ []) none_folded 4) ≡ 34
unfolding pot_of is_eligible
side_pot = refl

pub side_pot_begins : opens_pot (20 ∷ 3 ∷ 20 ∷ []) none_folded 4 ≡ true
unfolding opens_pot is_eligible
side_pot_begins = refl

-- the best hand wins the pot that it paid for, the second best the other
pub two_pots : payoffs (20 ∷ 3 ∷ 20 ∷ []) none_folded (twos ∷ aces ∷ kings ∷ []) ≡ negsuc 19 ∷ pos 6 ∷ pos 14 ∷ []
unfolding won won_at opens_pot pot_of share is_winner is_eligible
two_pots = refl

-- a tie in the main pot, of which the side pot's players have one
pub tie_in_the_main_pot : payoffs (5 ∷ 3 ∷ 5 ∷ []) none_folded (kings ∷ kings ∷ twos ∷ []) ≡ pos 4 ∷ pos 1 ∷ negsuc 4 ∷ []
unfolding won won_at opens_pot pot_of share is_winner is_eligible
tie_in_the_main_pot = refl

-- ---- odd chips

-- 11 chips among three: one odd chip each to the first two
pub eleven_among_three : payoffs (2 ∷ 3 ∷ 3 ∷ 3 ∷ []) (true ∷ false ∷ false ∷ false ∷ []) (twos ∷ kings ∷ kings ∷ kings ∷ []) ≡ negsuc 1 ∷ pos 1 ∷ pos 1 ∷ pos 0 ∷ []
unfolding won won_at opens_pot pot_of share is_winner is_eligible
eleven_among_three = refl

-- levels of five and of four chips for the same three players are one pot of nine, without an odd chip
pub nine_among_three : payoffs (1 ∷ 2 ∷ 2 ∷ 2 ∷ 2 ∷ []) (true ∷ true ∷ false ∷ false ∷ false ∷ []) (twos ∷ twos ∷ kings ∷ kings ∷ kings ∷ []) ≡ negsuc 0 ∷ negsuc 1 ∷ pos 1 ∷ pos 1 ∷ pos 1 ∷ []
unfolding won won_at opens_pot pot_of share is_winner is_eligible
nine_among_three = refl

-- who wins no pot gets no share of it
pub loser : share 11 (false ∷ true ∷ true ∷ true ∷ []) 0 ≡ 0
unfolding share
loser = refl

pub last_winner : share 11 (false ∷ true ∷ true ∷ true ∷ []) 3 ≡ 3
unfolding share
last_winner = refl

pub both_kings_win : winners_of (twos ∷ kings ∷ kings ∷ []) (is_eligible (5 ∷ 10 ∷ 10 ∷ []) one_folded 1) ≡ false ∷ true ∷ true ∷ []
unfolding is_winner is_eligible
both_kings_win = refl

-- ---- amounts

pub ten_is_an_amount : IsAmount (5 ∷ 10 ∷ 10 ∷ []) one_folded 10
ten_is_an_amount = record { owner = 1; unfolded = refl; exactly = refl }

-- five is the folded player's alone
not_of_five : (owner : ℕ) → get_or one_folded owner true ≡ false → ◌≡◌ {A = ℕ} (get_or (5 ∷ 10 ∷ 10 ∷ []) owner 0) 5 → ⊥
not_of_five zero unfolded exactly = cc
not_of_five (suc zero) unfolded exactly = cc
not_of_five (suc (suc zero)) unfolded exactly = cc
not_of_five (suc (suc (suc owner))) unfolded exactly = cc

pub five_is_no_next_amount : IsNextAmount (5 ∷ 10 ∷ 10 ∷ []) one_folded 0 5 → ⊥
five_is_no_next_amount next = not_of_five next.amount_of_one.owner next.amount_of_one.unfolded next.amount_of_one.exactly

at_least_ten : (position : ℕ) → get_or one_folded position true ≡ false → 0 < get_or (5 ∷ 10 ∷ 10 ∷ []) position 0 → 10 ≤ get_or (5 ∷ 10 ∷ 10 ∷ []) position 0
at_least_ten zero unfolded over = absurd (cc)
at_least_ten (suc zero) unfolded over = lit≤ tt
at_least_ten (suc (suc zero)) unfolded over = lit≤ tt
at_least_ten (suc (suc (suc position))) unfolded over = absurd (cc)

pub ten_is_next : IsNextAmount (5 ∷ 10 ∷ 10 ∷ []) one_folded 0 10
ten_is_next = record { above = lit< tt; amount_of_one = ten_is_an_amount; least = at_least_ten }

at_most_ten : (position : ℕ) → get_or one_folded position true ≡ false → get_or (5 ∷ 10 ∷ 10 ∷ []) position 0 ≤ 10
at_most_ten zero unfolded = absurd (cc)
at_most_ten (suc zero) unfolded = lit≤ tt
at_most_ten (suc (suc zero)) unfolded = lit≤ tt
at_most_ten (suc (suc (suc position))) unfolded = absurd (cc)

pub ten_is_last : IsLastAmount (5 ∷ 10 ∷ 10 ∷ []) one_folded 10
ten_is_last = at_most_ten

pub nine_is_not_last : IsLastAmount (5 ∷ 10 ∷ 10 ∷ []) one_folded 9 → ⊥
nine_is_not_last last = let over : 10 ≤ 9 = last 1 refl in omega arith

-- 2 of the first player and 5 of each other lie between 3 and 8
pub chips_from_four_to_eight : chips_between (5 ∷ 10 ∷ 10 ∷ []) 3 8 ≡ 12
chips_from_four_to_eight = refl

pub lesser_of_none : lesser None 7 ≡ 7
lesser_of_none = refl

pub lesser_of_two : lesser (Some 5) 7 ≡ 5
lesser_of_two = refl

-- ---- sets

pub first_and_tenth_level : is_same_set 3 (is_eligible (5 ∷ 10 ∷ 10 ∷ []) one_folded 1) (is_eligible (5 ∷ 10 ∷ 10 ∷ []) one_folded 10) ≡ true
unfolding is_eligible
first_and_tenth_level = refl

pub third_and_fourth_level : is_same_set 3 (is_eligible (20 ∷ 3 ∷ 20 ∷ []) none_folded 3) (is_eligible (20 ∷ 3 ∷ 20 ∷ []) none_folded 4) ≡ false
unfolding is_eligible
third_and_fourth_level = refl

-- ---- one unfolded player, and two

one_left : (first second : ℕ) → get_or (true ∷ false ∷ true ∷ []) first true ≡ false → get_or (true ∷ false ∷ true ∷ []) second true ≡ false → first ≡ second
one_left zero second unfolded other = absurd (cc)
one_left (suc (suc zero)) second unfolded other = absurd (cc)
one_left (suc (suc (suc first))) second unfolded other = absurd (cc)
one_left (suc zero) zero unfolded other = absurd (cc)
one_left (suc zero) (suc zero) unfolded other = refl
one_left (suc zero) (suc (suc zero)) unfolded other = absurd (cc)
one_left (suc zero) (suc (suc (suc second))) unfolded other = absurd (cc)

pub one_unfolded : AtMostOneUnfolded (true ∷ false ∷ true ∷ [])
one_unfolded = one_left

pub not_one_unfolded : AtMostOneUnfolded one_folded → ⊥
not_one_unfolded alone = let same : ◌≡◌ {A = ℕ} 1 2 = alone 1 2 refl refl in omega arith

-- of one unfolded player the hand doesn't matter, of two it does
pub same_for_one : payoffs (5 ∷ 10 ∷ 10 ∷ []) (true ∷ false ∷ true ∷ []) (twos ∷ kings ∷ aces ∷ []) ≡ payoffs (5 ∷ 10 ∷ 10 ∷ []) (true ∷ false ∷ true ∷ []) (aces ∷ twos ∷ twos ∷ [])
unfolding won won_at opens_pot pot_of share is_winner is_eligible
same_for_one = refl

pub not_same_for_two : payoffs (5 ∷ 10 ∷ 10 ∷ []) one_folded (twos ∷ kings ∷ kings ∷ []) ≡ payoffs (5 ∷ 10 ∷ 10 ∷ []) one_folded (aces ∷ kings ∷ twos ∷ []) → ⊥
not_same_for_two same = let different = sym split_25 ∙ same ∙ folded_aces in cc
