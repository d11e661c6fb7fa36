-- Means of what deals pay, and how far they are from 0.
use Rattle.std.proofs.Common.{◌≡◌, ℕ, zero, suc, ◌+◌, ◌*◌, ◌/◌, ◌<◌, ◌≤◌, ℤ, pos, negsuc, ◌+ℤ◌, ◌-ℤ◌, List, length, get_or, set, w64, lit≤, sym, ◌∙◌, ap, subst, inl, inr, arith}
use Rattle.std.specs.Prelude.{◌*ℤ◌, FitsSigned}
use Rattle.std.proofs.Math.IntN.{pos-*ℤ-pos, pos-*ℤ-negsuc}
use Rattle.std.proofs.Math.Nat.{mul-le-mul_left}
use Rattle.std.proofs.lemmas.Bool.{cases_lt}
use Rattle.std.proofs.lemmas.Int.{ints, to_z-of_z}
use Rattle.std.proofs.lemmas.List.{get_or-set_same, get_or-set_other}
use Rattle.match_log.specs.Payoffs.{IsWithin, most_payoff}
use Rattle.match_log.proofs.Adding.{within_fits}

-- the deals of a mean count no more parts than there are
pub parts_shared : (parts deals : ℕ) → 0 < deals → parts / deals * deals ≤ parts
parts_shared parts deals some = omega arith

pub parts_few : (parts deals : ℕ) → parts ≤ 2000 → parts / deals ≤ 2000
parts_few parts zero few = omega arith
parts_few parts (suc deals) few = omega (arith, parts_shared parts (suc deals) (omega arith))

scaled : (weight bound least most : ℕ) → bound ≤ least → weight * least ≤ most → weight * bound ≤ most
scaled weight bound least most small fits = omega (arith, mul-le-mul_left weight small)

pub mean_within : (weight deals : ℕ) (amount : ℤ) → weight * deals ≤ 2000 → IsWithin (most_payoff * deals) amount → IsWithin (most_payoff * 2000) (pos weight *ℤ amount)
mean_within weight deals (pos n) few within =
    let small : n ≤ most_payoff * deals = omega (arith, ints, within.greatest) in
    let fits : weight * (most_payoff * deals) ≤ most_payoff * 2000 = omega (arith, mul-le-mul_left most_payoff few) in
    let near : weight * n ≤ most_payoff * 2000 = scaled weight n (most_payoff * deals) (most_payoff * 2000) small fits in
    subst (IsWithin (most_payoff * 2000)) (sym (pos-*ℤ-pos weight n)) (record { least = omega (arith, ints, near); greatest = omega (arith, ints, near) })
mean_within weight deals (negsuc n) few within =
    let small : suc n ≤ most_payoff * deals = omega (arith, ints, within.least) in
    let fits : weight * (most_payoff * deals) ≤ most_payoff * 2000 = omega (arith, mul-le-mul_left most_payoff few) in
    let near : weight * suc n ≤ most_payoff * 2000 = scaled weight (suc n) (most_payoff * deals) (most_payoff * 2000) small fits in
    subst (IsWithin (most_payoff * 2000)) (sym (pos-*ℤ-negsuc weight n)) (record { least = omega (arith, ints, near); greatest = omega (arith, ints, near) })

pub mean_fits : (weight deals : ℕ) (amount : ℤ) → weight * deals ≤ 2000 → IsWithin (most_payoff * deals) amount → FitsSigned w64 (pos weight *ℤ amount)
mean_fits weight deals amount few within = within_fits (most_payoff * 2000) (pos weight *ℤ amount) (lit≤ tt) (mean_within weight deals amount few within)

-- what 64 bits make of a product and of a difference
abbrev bits_of : ℤ → ℤ
bits_of z = mir.Val.to_z w64 (mir.Val.of_z w64 z)

pub product_fits : (weight : ℤ) (count deals : ℕ) (amount : ℤ) → weight ≡ pos count → count ≤ 2000 → deals ≤ 10000 → count * deals ≤ 2000 → IsWithin (most_payoff * deals) amount
    → FitsSigned w64 (mir.Val.to_z w64 (mir.Val.of_z w64 weight) *ℤ mir.Val.to_z w64 (mir.Val.of_z w64 amount))
product_fits weight count deals amount is small few shared within =
    let fits_weight : FitsSigned w64 (pos count) = within_fits 2000 (pos count) (lit≤ tt) (record { least = omega (arith, ints); greatest = omega (arith, ints, small) }) in
    let bound : most_payoff * deals ≤ 1000000000000000 = omega arith in
    let fits_amount : FitsSigned w64 amount = within_fits (most_payoff * deals) amount bound within in
    subst (λ (z : ℤ). FitsSigned w64 (bits_of z *ℤ bits_of amount)) (sym is)
    (subst (λ (z : ℤ). FitsSigned w64 (z *ℤ bits_of amount)) (sym (to_z-of_z w64 (pos count) fits_weight))
    (subst (λ (z : ℤ). FitsSigned w64 (pos count *ℤ z)) (sym (to_z-of_z w64 amount fits_amount)) (mean_fits count deals amount shared within)))

pub product_read : (weight : ℤ) (count deals : ℕ) (amount : ℤ) → weight ≡ pos count → count ≤ 2000 → deals ≤ 10000 → count * deals ≤ 2000 → IsWithin (most_payoff * deals) amount
    → mir.Val.to_z w64 (mir.Val.of_z w64 (mir.Val.to_z w64 (mir.Val.of_z w64 weight) *ℤ mir.Val.to_z w64 (mir.Val.of_z w64 amount))) ≡ pos count *ℤ amount
product_read weight count deals amount is small few shared within =
    let fits_weight : FitsSigned w64 (pos count) = within_fits 2000 (pos count) (lit≤ tt) (record { least = omega (arith, ints); greatest = omega (arith, ints, small) }) in
    let bound : most_payoff * deals ≤ 1000000000000000 = omega arith in
    let fits_amount : FitsSigned w64 amount = within_fits (most_payoff * deals) amount bound within in
    ap (λ (z : ℤ). bits_of (bits_of z *ℤ bits_of amount)) is
    ∙ ap (λ (z : ℤ). bits_of (z *ℤ bits_of amount)) (to_z-of_z w64 (pos count) fits_weight)
    ∙ ap (λ (z : ℤ). bits_of (pos count *ℤ z)) (to_z-of_z w64 amount fits_amount)
    ∙ to_z-of_z w64 (pos count *ℤ amount) (mean_fits count deals amount shared within)

-- one more place of a list
pub set_more : (xs : List ℤ) (place : ℕ) (value : ℤ) (f : ℕ → ℤ) → place < length xs → ((k : ℕ) → k < place → get_or xs k (pos 0) ≡ f k) → value ≡ f place
    → (k : ℕ) → k < place + 1 → get_or (set xs place value) k (pos 0) ≡ f k
set_more xs place value f within so_far is k below =
    elim (cases_lt k place) [
      | inl less ↦ get_or-set_other xs place k value (pos 0) (omega arith) ∙ so_far k less
      | inr up ↦
          let same : k ≡ place = omega arith in
          ap (λ n. get_or (set xs place value) n (pos 0)) same ∙ get_or-set_same xs place value (pos 0) within ∙ is ∙ ap f (sym same)
    ]

-- one more street's move
module _ (luck behind before : ℤ) (luck_near : IsWithin (most_payoff * 8000) luck) (behind_near : IsWithin (most_payoff * 2000) behind) (before_near : IsWithin (most_payoff * 2000) before) where
  fits_luck : FitsSigned w64 luck
  fits_luck = within_fits (most_payoff * 8000) luck (lit≤ tt) luck_near

  fits_behind : FitsSigned w64 behind
  fits_behind = within_fits (most_payoff * 2000) behind (lit≤ tt) behind_near

  fits_before : FitsSigned w64 before
  fits_before = within_fits (most_payoff * 2000) before (lit≤ tt) before_near

  move_near : IsWithin (most_payoff * 4000) (behind -ℤ before)
  move_near = record { least = omega (arith, ints, behind_near.least, before_near.greatest); greatest = omega (arith, ints, behind_near.greatest, before_near.least) }

  fits_move : FitsSigned w64 (behind -ℤ before)
  fits_move = within_fits (most_payoff * 4000) (behind -ℤ before) (lit≤ tt) move_near

  fits_sum : FitsSigned w64 (luck +ℤ (behind -ℤ before))
  fits_sum = within_fits (most_payoff * 12000) (luck +ℤ (behind -ℤ before)) (lit≤ tt)
      (record { least = omega (arith, ints, luck_near.least, move_near.least); greatest = omega (arith, ints, luck_near.greatest, move_near.greatest) })

  move_read : bits_of luck +ℤ bits_of (bits_of behind -ℤ bits_of before) ≡ luck +ℤ (behind -ℤ before)
  move_read =
      ap (λ (z : ℤ). z +ℤ bits_of (bits_of behind -ℤ bits_of before)) (to_z-of_z w64 luck fits_luck)
      ∙ ap (λ (z : ℤ). luck +ℤ bits_of (z -ℤ bits_of before)) (to_z-of_z w64 behind fits_behind)
      ∙ ap (λ (z : ℤ). luck +ℤ bits_of (behind -ℤ z)) (to_z-of_z w64 before fits_before)
      ∙ ap (λ (z : ℤ). luck +ℤ z) (to_z-of_z w64 (behind -ℤ before) fits_move)

  pub moved_fits : FitsSigned w64 (mir.Val.to_z w64 (mir.Val.of_z w64 luck) +ℤ mir.Val.to_z w64 (mir.Val.of_z w64 (mir.Val.to_z w64 (mir.Val.of_z w64 behind) -ℤ mir.Val.to_z w64 (mir.Val.of_z w64 before))))
  moved_fits = subst (FitsSigned w64) (sym move_read) fits_sum

  pub moved_read : mir.Val.to_z w64 (mir.Val.of_z w64 (mir.Val.to_z w64 (mir.Val.of_z w64 luck) +ℤ mir.Val.to_z w64 (mir.Val.of_z w64 (mir.Val.to_z w64 (mir.Val.of_z w64 behind) -ℤ mir.Val.to_z w64 (mir.Val.of_z w64 before))))) ≡ luck +ℤ (behind -ℤ before)
  moved_read = ap bits_of move_read ∙ to_z-of_z w64 (luck +ℤ (behind -ℤ before)) fits_sum
