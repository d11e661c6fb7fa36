-- One more payoff added to a seat's total.
use Rattle.std.proofs.Common.{◌≡◌, ℕ, ◌+◌, ◌*◌, ◌<◌, ◌≤◌, ℤ, pos, negsuc, ◌+ℤ◌, List, length, map, get_or, set, take, w64, lit≤, sym, ◌∙◌, ap, subst, arith}
use Rattle.std.specs.List.{All, range_with_len}
use Rattle.std.proofs.lemmas.List.{length-set, get_or-set_other}
use Rattle.std.specs.Prelude.{FitsSigned}
use Rattle.std.proofs.lemmas.Int.{ints, to_z-of_z}
use Rattle.std.proofs.lemmas.List.Elements.{All-set, All-get_or}
use Rattle.match_log.specs.Payoffs.{IsWithin, most_payoff}
use Rattle.match_log.proofs.ByPosition.{fill_range}

-- 64 bits hold what is that near to 0
pub within_fits : (most : ℕ) (z : ℤ) → most ≤ 1000000000000000 → IsWithin most z → FitsSigned w64 z
within_fits most (pos n) small within =
    let below : n < 9223372036854775808 = omega (arith, ints, small, within.greatest) in
    record { sfits = below }
within_fits most (negsuc n) small within =
    let below : n < 9223372036854775808 = omega (arith, ints, small, within.least) in
    record { sfits = below }

-- a total and a payoff more
pub sum_within : (hands : ℕ) (total payoff : ℤ) → IsWithin (most_payoff * hands) total → IsWithin most_payoff payoff → IsWithin (most_payoff * (hands + 1)) (total +ℤ payoff)
sum_within hands total payoff so_far more = record {
  least = omega (arith, ints, so_far.least, more.least);
  greatest = omega (arith, ints, so_far.greatest, more.greatest);
}

-- what a sum in 64 bits reads back as
pub read_back : (a b : ℤ) → FitsSigned w64 a → FitsSigned w64 b → FitsSigned w64 (a +ℤ b) → mir.Val.to_z w64 (mir.Val.of_z w64 (mir.Val.to_z w64 (mir.Val.of_z w64 a) +ℤ mir.Val.to_z w64 (mir.Val.of_z w64 b))) ≡ a +ℤ b
read_back a b fits_a fits_b fits =
    ap (λ (x : ℤ). mir.Val.to_z w64 (mir.Val.of_z w64 (x +ℤ mir.Val.to_z w64 (mir.Val.of_z w64 b)))) (to_z-of_z w64 a fits_a)
    ∙ (ap (λ (y : ℤ). mir.Val.to_z w64 (mir.Val.of_z w64 (a +ℤ y))) (to_z-of_z w64 b fits_b)
    ∙ to_z-of_z w64 (a +ℤ b) fits)

-- the totals up to a seat, of the old ones and a hand's payoffs by seat
pub record IsAddedUpto (old totals : List ℤ) (hands : ℕ) (paid : ℕ → ℤ) (seat : ℕ) : Type 0 where
  pub places : length totals ≡ 10
  pub so_far : take seat totals ≡ map (λ s. get_or old s (pos 0) +ℤ paid s) (range_with_len 0 seat)
  pub others : (k : ℕ) → seat ≤ k → get_or totals k (pos 0) ≡ get_or old k (pos 0)
  pub within : All (IsWithin (most_payoff * (hands + 1))) totals

pub added_more : (old totals : List ℤ) (hands seat : ℕ) (paid : ℕ → ℤ) (payoff sum : ℤ) → hands < 10000 → seat < 10 → length old ≡ 10 → All (IsWithin (most_payoff * hands)) old → IsWithin most_payoff payoff → payoff ≡ paid seat
    → sum ≡ mir.Val.to_z w64 (mir.Val.of_z w64 (mir.Val.to_z w64 (mir.Val.of_z w64 (get_or totals seat (pos 0))) +ℤ mir.Val.to_z w64 (mir.Val.of_z w64 payoff)))
    → IsAddedUpto old totals hands paid seat → IsAddedUpto old (set totals seat sum) hands paid (seat + 1)
added_more old totals hands seat paid payoff sum few below old_places old_within near is_paid is_sum so_far =
    let place : seat < length totals = omega (arith, so_far.places) in
    let old_place : seat < length old = omega (arith, old_places) in
    let a : ℤ = get_or totals seat (pos 0) in
    let as_old : a ≡ get_or old seat (pos 0) = so_far.others seat (omega arith) in
    let near_old : IsWithin (most_payoff * hands) (get_or old seat (pos 0)) = All-get_or (IsWithin (most_payoff * hands)) old seat (pos 0) old_place old_within in
    let near_a : IsWithin (most_payoff * hands) a = subst (IsWithin (most_payoff * hands)) (sym as_old) near_old in
    let near_sum : IsWithin (most_payoff * (hands + 1)) (a +ℤ payoff) = sum_within hands a payoff near_a near in
    let small : most_payoff * hands ≤ 1000000000000000 = omega arith in
    let small_sum : most_payoff * (hands + 1) ≤ 1000000000000000 = omega arith in
    let value : sum ≡ a +ℤ payoff = is_sum ∙ read_back a payoff (within_fits (most_payoff * hands) a small near_a) (within_fits most_payoff payoff (lit≤ tt) near) (within_fits (most_payoff * (hands + 1)) (a +ℤ payoff) small_sum near_sum) in
    record {
      places = length-set totals seat sum ∙ so_far.places;
      so_far = fill_range (λ s. get_or old s (pos 0) +ℤ paid s) totals seat sum place so_far.so_far (value ∙ (ap (λ x. x +ℤ payoff) as_old ∙ ap (λ y. get_or old seat (pos 0) +ℤ y) is_paid));
      others = λ k above. get_or-set_other totals seat k sum (pos 0) (omega arith) ∙ so_far.others k (omega arith);
      within = All-set (IsWithin (most_payoff * (hands + 1))) totals seat sum (subst (IsWithin (most_payoff * (hands + 1))) (sym value) near_sum) so_far.within;
    }
