-- What holds of all payoffs: they sum to zero, and the last unfolded player gets all.
use Rattle.std.proofs.Common.{◌≡◌, ◌≢◌, ℕ, ◌+◌, ◌-◌, ◌<◌, ◌≤◌, ℤ, pos, ◌+ℤ◌, ◌-ℤ◌, Bool, true, max, min, List, [], ◌∷◌, length, get_or, map, zero, suc, refl, sym, ◌∙◌, ap, arith}
use Rattle.std.specs.List.{All, fold, range_with_len, sum, sum_by}
use Rattle.std.proofs.lemmas.Bool.{cond_both}
use Rattle.std.proofs.lemmas.Int.{ints}
use Rattle.std.proofs.lemmas.List.Elements.{All-from_get_or, All-head, All-tail}
use Rattle.std.proofs.lemmas.List.FromFn.{fill_by_all}
use Rattle.std.proofs.lemmas.List.Sums.{sum-map, sum_by-cons, get_or-le-sum_by}
use Rattle.hand_rank.specs.Worth.{Worth}
use Rattle.side_pots.specs.Amounts.{chips_between}
use Rattle.side_pots.specs.Pots.{is_eligible, opens_pot, pot_of, won_at, won, payoff, payoffs, total}
use Rattle.side_pots.proofs.Ranges.{sum_range-first, sum_range-none, sum_range-only}
use Rattle.side_pots.proofs.Levels.{eligible_folded, share_of_set, max_of_each}
use Rattle.side_pots.proofs.BestHands.{no_share_outside}

-- what each player put in, summed by position
pub sum_of_places : (spent : List ℕ) → sum_by (λ p. get_or spent p 0) (range_with_len 0 (length spent)) ≡ sum spent
sum_of_places spent =
    sym (ap sum (fill_by_all (λ p. get_or spent p 0) spent (length spent) 0 refl (λ k h. refl)) ∙ sum-map (λ p. get_or spent p 0) (range_with_len 0 (length spent)))

chips_of_all : (xs : List ℕ) (most : ℕ) → All (λ x. x ≤ most) xs → chips_between xs 0 most ≡ sum xs
chips_of_all [] most all = refl
chips_of_all (x ∷ xs) most all =
    let first : x ≤ most = All-head (λ y. y ≤ most) x xs all in
    omega (
      arith,
      sum_by-cons (λ (amount : ℕ). min amount most - min amount 0) x xs,
      sum_by-cons (λ (y : ℕ). y) x xs,
      chips_of_all xs most (All-tail (λ y. y ≤ most) x xs all),
    )

-- up to the greatest amount all chips are counted
pub chips_upto_greatest : (spent : List ℕ) → chips_between spent 0 (fold max 0 spent) ≡ sum spent
chips_upto_greatest spent = chips_of_all spent (fold max 0 spent) (All-from_get_or (λ x. x ≤ fold max 0 spent) spent 0 (λ i h. max_of_each spent 0 i))

-- ---- the sum of the payoffs

total_of_differences : (f g : ℕ → ℕ) (start : ℤ) (a k : ℕ) → fold ◌+ℤ◌ start (map (λ p. pos (f p) -ℤ pos (g p)) (range_with_len a k)) ≡ start +ℤ (pos (sum_by f (range_with_len a k)) -ℤ pos (sum_by g (range_with_len a k)))
total_of_differences f g start a zero = omega (arith, ints)
total_of_differences f g start a (suc k) =
    let rest : fold ◌+ℤ◌ (start +ℤ (pos (f a) -ℤ pos (g a))) (map (λ p. pos (f p) -ℤ pos (g p)) (range_with_len (a + 1) k)) ≡ (start +ℤ (pos (f a) -ℤ pos (g a))) +ℤ (pos (sum_by f (range_with_len (a + 1) k)) -ℤ pos (sum_by g (range_with_len (a + 1) k))) =
    total_of_differences f g (start +ℤ (pos (f a) -ℤ pos (g a))) (a + 1) k in
    rest ∙ omega (arith, ints, sum_range-first f a k, sum_range-first g a k)

pub payoffs-total : (spent : List ℕ) (folded : List Bool) (values : List Worth) → sum_by (won spent folded values) (range_with_len 0 (length spent)) ≡ sum spent → total (payoffs spent folded values) ≡ pos 0
payoffs-total spent folded values all =
    total_of_differences (won spent folded values) (λ p. get_or spent p 0) (pos 0) 0 (length spent)
    ∙ omega (arith, ints, all, sum_of_places spent)

-- ---- no more is lost than was put in

-- ---- the last unfolded player

won_at-folded : (spent : List ℕ) (folded : List Bool) (values : List Worth) (position level : ℕ) → get_or folded position true ≡ true → won_at spent folded values position level ≡ 0
unfolding won_at
won_at-folded spent folded values position level is_folded =
    cond_both (opens_pot spent folded level) (share_of_set spent folded values position (is_eligible spent folded level)) 0 (λ n. n ≡ 0)
    (λ _. no_share_outside (pot_of spent folded (is_eligible spent folded level)) values (is_eligible spent folded level) position (eligible_folded spent folded level position is_folded))
    (λ _. refl)

-- a folded player wins nothing
pub won-folded : (spent : List ℕ) (folded : List Bool) (values : List Worth) (position : ℕ) → get_or folded position true ≡ true → won spent folded values position ≡ 0
unfolding won
won-folded spent folded values position is_folded =
    sum_range-none (won_at spent folded values position) 1 (fold max 0 spent) (λ level from to. won_at-folded spent folded values position level is_folded)

pub payoff-last : (spent : List ℕ) (folded : List Bool) (values : List Worth) (position : ℕ) → position < length spent → sum_by (won spent folded values) (range_with_len 0 (length spent)) ≡ sum spent → ((other : ℕ) → other ≢ position → get_or folded other true ≡ true) → payoff spent folded values position ≡ pos (sum spent - get_or spent position 0)
payoff-last spent folded values position within all others =
    let alone : sum_by (won spent folded values) (range_with_len 0 (length spent)) ≡ won spent folded values position =
    sum_range-only (won spent folded values) 0 (length spent) position (omega arith) (omega arith) (λ v differ. won-folded spent folded values v (others v differ)) in
    let part : get_or spent position 0 ≤ sum spent = get_or-le-sum_by (λ (x : ℕ). x) spent position 0 within in
    omega (arith, ints, all, alone, part)
