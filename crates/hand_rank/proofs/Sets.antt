-- Sets of ranks by their bits: one rank added or taken away, the highest one, and straights.
use Rattle.std.proofs.Common.{◌≡◌, ◌≢◌, ℕ, zero, suc, ◌+◌, ◌-◌, ◌*◌, ◌/◌, ◌%◌, ◌^◌, ◌<◌, ◌≤◌, min, max, bit_and, bit_or, [], ◌∷◌, inl, inr, ◌⊎◌, sym, ◌∙◌, ap, subst, arith, le-div_iff_mul-le, div-lt_iff_lt-mul, pow_pos, pow_mono, pow-suc, w16, shr-shr, shr_lt, shl_exact, cond, eqb, false}
use lib.Pow.{pow-lt}
use Rattle.std.specs.Int.{bit_at, leading_zeros}
use Rattle.std.proofs.lemmas.Bool.{cases_lt, cases_eq, ne_eqb, cond-false}
use Rattle.std.proofs.lemmas.Nat.Bits.{bit_at_and, bit_at_or, bit_at-pow_same, bit_at-pow_other, bit_at_above, bit_at_clear_same, bit_at_clear_other, bit_at_cat_low, bit_at_cat_high, bit_at-lt, bit_at-zero, bit_at_lowest}
use Rattle.hand_rank.specs.Ranks.{IsAtLeast, IsHighest, IsWithout, IsRun, IsHighestRun, AreHighest}
use Rattle.std.proofs.lemmas.Nat.{and_le_l, and_le_r}
use lib.Count.{leading_top, leading_of_zero}

-- ---- the highest bit

-- the highest bit of a number stands where its power of two lies
bit_at-top : (bits place : ℕ) → 2 ^ place ≤ bits → bits < 2 ^ suc place → bit_at bits place ≡ 1
bit_at-top bits place least most =
    let positive : 0 < 2 ^ place = pow_pos place in
    let one : 1 ≤ bits / 2 ^ place = (le-div_iff_mul-le {k = 2 ^ place} {x = 1} {y = bits} positive).1 (omega arith) in
    let two : bits / 2 ^ place < 2 = (div-lt_iff_lt-mul {k = 2 ^ place} {x = bits} {y = 2} positive).1 (omega (arith, pow-suc 2 place)) in
    omega arith

pub highest_of : (bits zeros : ℕ) → bits < 2 ^ 16 → zeros ≡ leading_zeros w16 bits → 0 < bits → IsHighest bits (15 - zeros)
highest_of bits zeros low e some =
    let top = leading_top 16 bits some low in
    let place : top.0 ≡ 15 - zeros = omega (arith, top.1, e) in
    let P : ℕ → Type 0 = λ n. IsHighest bits n in
    subst P place (record { present = bit_at-top bits top.0 top.2 top.3; above = λ rank after. bit_at_above bits (suc top.0) rank top.3 (omega arith) })

top_below : (bits place n : ℕ) → bits < 2 ^ n → 2 ^ place ≤ bits → place < n
top_below bits place n low least =
    elim (cases_lt place n) [ inl below ↦ below | inr past ↦ absurd (let more : 2 ^ n ≤ 2 ^ place = pow_mono past in omega arith) ]

pub highest_below : (bits zeros n : ℕ) → bits < 2 ^ n → n ≤ 16 → 0 < n → zeros ≡ leading_zeros w16 bits → 15 - zeros < n
highest_below bits zeros n low short some e =
    elim (cases_lt 0 bits) [
      | inl positive ↦
          let top = leading_top 16 bits positive (let more : 2 ^ n ≤ 2 ^ 16 = pow_mono short in omega arith) in
          let below : top.0 < n = top_below bits top.0 n low top.2 in
          omega (arith, top.1, e)
      | inr none ↦
          let nil : bits ≡ 0 = omega arith in
          let all : leading_zeros w16 bits ≡ 16 = ap (λ (b : ℕ). leading_zeros w16 b) nil ∙ leading_of_zero 16 in
          omega (arith, all, e)
    ]

-- ---- one rank more, one rank less

bit_of_power : (rank other : ℕ) → ((other ≡ rank) × (bit_at (2 ^ rank) other ≡ 1)) ⊎ ((other ≢ rank) × (bit_at (2 ^ rank) other ≡ 0))
bit_of_power rank other =
    elim (cases_eq other rank) [
      | inl same ↦ inl (same, ap (bit_at (2 ^ rank)) same ∙ bit_at-pow_same rank)
      | inr differ ↦ inr (differ, bit_at-pow_other rank other differ)
    ]

-- one more of a rank: the rank joins the set if it came one time less before
pub at_least_more : (bits less size rank : ℕ) (count more : ℕ → ℕ) → IsAtLeast bits (suc size) count → IsAtLeast less size count → more rank ≡ count rank + 1 → ((other : ℕ) → other ≢ rank → more other ≡ count other) → IsAtLeast (bit_or bits (bit_and less (2 ^ rank))) (suc size) more
at_least_more bits less size rank count more full part one same = record {
  present = λ other enough.
      let both : bit_at (bit_or bits (bit_and less (2 ^ rank))) other ≡ max (bit_at bits other) (min (bit_at less other) (bit_at (2 ^ rank) other)) =
      bit_at_or bits (bit_and less (2 ^ rank)) other ∙ ap (max (bit_at bits other)) (bit_at_and less (2 ^ rank) other) in
      elim (bit_of_power rank other) [
        | inl here ↦
            let P : ℕ → Type 0 = λ n. suc size ≤ more n in
            let grown : suc size ≤ more rank = subst P here.0 enough in
            let Q : ℕ → Type 0 = λ n. bit_at less n ≡ 1 in
            let had : bit_at less other ≡ 1 = subst Q (sym here.0) (part.present rank (omega arith)) in
            omega (arith, both, here.1, had, bit_at-lt bits other)
        | inr there ↦
            let had : bit_at bits other ≡ 1 = full.present other (omega (arith, same other there.0)) in
            omega (arith, both, there.1, had)
      ];
  absent = λ other few.
      let both : bit_at (bit_or bits (bit_and less (2 ^ rank))) other ≡ max (bit_at bits other) (min (bit_at less other) (bit_at (2 ^ rank) other)) =
      bit_at_or bits (bit_and less (2 ^ rank)) other ∙ ap (max (bit_at bits other)) (bit_at_and less (2 ^ rank) other) in
      elim (bit_of_power rank other) [
        | inl here ↦
            let P : ℕ → Type 0 = λ n. more n < suc size in
            let small : more rank < suc size = subst P here.0 few in
            let Q : ℕ → Type 0 = λ n. bit_at less n ≡ 0 in
            let R : ℕ → Type 0 = λ n. bit_at bits n ≡ 0 in
            let lacked : bit_at less other ≡ 0 = subst Q (sym here.0) (part.absent rank (omega arith)) in
            let lacking : bit_at bits other ≡ 0 = subst R (sym here.0) (full.absent rank (omega arith)) in
            omega (arith, both, lacked, lacking)
        | inr there ↦
            let lacked : bit_at bits other ≡ 0 = full.absent other (omega (arith, same other there.0)) in
            omega (arith, both, there.1, lacked)
      ];
}

-- the same for the set of the ranks that come at all
pub at_least_one_more : (bits rank : ℕ) (count more : ℕ → ℕ) → IsAtLeast bits 1 count → more rank ≡ count rank + 1 → ((other : ℕ) → other ≢ rank → more other ≡ count other) → IsAtLeast (bit_or bits (2 ^ rank)) 1 more
at_least_one_more bits rank count more full one same = record {
  present = λ other enough.
      let both : bit_at (bit_or bits (2 ^ rank)) other ≡ max (bit_at bits other) (bit_at (2 ^ rank) other) = bit_at_or bits (2 ^ rank) other in
      elim (bit_of_power rank other) [
        | inl here ↦ omega (arith, both, here.1, bit_at-lt bits other)
        | inr there ↦
            let had : bit_at bits other ≡ 1 = full.present other (omega (arith, same other there.0)) in
            omega (arith, both, there.1, had)
      ];
  absent = λ other few.
      let both : bit_at (bit_or bits (2 ^ rank)) other ≡ max (bit_at bits other) (bit_at (2 ^ rank) other) = bit_at_or bits (2 ^ rank) other in
      elim (bit_of_power rank other) [
        | inl here ↦
            let P : ℕ → Type 0 = λ n. more n < 1 in
            let small : more rank < 1 = subst P here.0 few in
            absurd (omega arith)
        | inr there ↦
            let lacked : bit_at bits other ≡ 0 = full.absent other (omega (arith, same other there.0)) in
            omega (arith, both, there.1, lacked)
      ];
}

-- ---- straights

shifted : (bits by place : ℕ) → bit_at (bits / 2 ^ by) place ≡ bit_at bits (by + place)
shifted bits by place = ap (λ (n : ℕ). n % 2) (shr-shr bits by place)

-- the ace below the two
abbrev pub ace_below : ℕ → ℕ
ace_below bits = bits * 2 ^ 1 + bits / 2 ^ 12

ace_low : (bits : ℕ) → bits < 2 ^ 13 → bits / 2 ^ 12 < 2 ^ 1
ace_low bits low = shr_lt 1 12 low

bit_at-ace : (bits : ℕ) → bits < 2 ^ 13 → bit_at (ace_below bits) 0 ≡ bit_at bits 12
bit_at-ace bits low = bit_at_cat_low bits 1 (bits / 2 ^ 12) 0 (omega arith) ∙ bit_at_lowest (bits / 2 ^ 12)

bit_at-rank : (bits place : ℕ) → bits < 2 ^ 13 → bit_at (ace_below bits) (suc place) ≡ bit_at bits place
bit_at-rank bits place low =
    let back : suc place - 1 ≡ place = omega arith in
    bit_at_cat_high bits 1 (bits / 2 ^ 12) (suc place) (ace_low bits low) (omega arith) ∙ ap (bit_at bits) back

-- five in a row, by the lowest of them
abbrev pub runs_of : ℕ → ℕ
runs_of row = bit_and (bit_and (bit_and (bit_and row (row / 2 ^ 1)) (row / 2 ^ 2)) (row / 2 ^ 3)) (row / 2 ^ 4)

runs_of-bit : (row place : ℕ) → bit_at (runs_of row) place ≡ min (min (min (min (bit_at row place) (bit_at row (1 + place))) (bit_at row (2 + place))) (bit_at row (3 + place))) (bit_at row (4 + place))
runs_of-bit row place =
    let one = row / 2 ^ 1 in
    let two = row / 2 ^ 2 in
    let three = row / 2 ^ 3 in
    let four = row / 2 ^ 4 in
    let a = bit_at_and row one place in
    let b = bit_at_and (bit_and row one) two place in
    let c = bit_at_and (bit_and (bit_and row one) two) three place in
    let d = bit_at_and (bit_and (bit_and (bit_and row one) two) three) four place in
    omega (arith, a, b, c, d, shifted row 1 place, shifted row 2 place, shifted row 3 place, shifted row 4 place)

bit_along : (bits place other : ℕ) → place ≡ other → bit_at bits place ≡ bit_at bits other
bit_along bits place other same = ap (bit_at bits) same

-- the lowest rank of a straight, in the row with the ace below
lowest_bit : (bits place : ℕ) → bits < 2 ^ 13 → bit_at (ace_below bits) place ≡ bit_at bits (cond (eqb (place + 3) 3) 12 (place + 3 - 4))
lowest_bit bits zero low = bit_at-ace bits low
lowest_bit bits (suc place) low =
    let fails : eqb (suc place + 3) 3 ≡ false = ne_eqb (suc place + 3) 3 (λ same. omega arith) in
    let fourth : suc place + 3 - 4 ≡ place = omega arith in
    bit_at-rank bits place low ∙ bit_along bits place (cond (eqb (suc place + 3) 3) 12 (suc place + 3 - 4)) (sym fourth ∙ sym (cond-false (eqb (suc place + 3) 3) 12 (suc place + 3 - 4) fails))

-- a run of the row is a straight
run_from_row : (bits place : ℕ) → bits < 2 ^ 13 → place < 10 → bit_at (runs_of (ace_below bits)) place ≡ 1 → IsRun bits (place + 3)
run_from_row bits place low short passes =
    let all = runs_of-bit (ace_below bits) place in
    let least = lowest_bit bits place low in
    let second : bit_at (ace_below bits) (1 + place) ≡ bit_at bits (place + 3 - 3) = bit_along (ace_below bits) (1 + place) (suc place) (omega arith) ∙ (bit_at-rank bits place low ∙ bit_along bits place (place + 3 - 3) (omega arith)) in
    let third : bit_at (ace_below bits) (2 + place) ≡ bit_at bits (place + 3 - 2) = bit_along (ace_below bits) (2 + place) (suc (place + 1)) (omega arith) ∙ (bit_at-rank bits (place + 1) low ∙ bit_along bits (place + 1) (place + 3 - 2) (omega arith)) in
    let fourth : bit_at (ace_below bits) (3 + place) ≡ bit_at bits (place + 3 - 1) = bit_along (ace_below bits) (3 + place) (suc (place + 2)) (omega arith) ∙ (bit_at-rank bits (place + 2) low ∙ bit_along bits (place + 2) (place + 3 - 1) (omega arith)) in
    let fifth : bit_at (ace_below bits) (4 + place) ≡ bit_at bits (place + 3) = bit_along (ace_below bits) (4 + place) (suc (place + 3)) (omega arith) ∙ bit_at-rank bits (place + 3) low in
    let one = bit_at-lt (ace_below bits) place in
    let two = bit_at-lt (ace_below bits) (1 + place) in
    let three = bit_at-lt (ace_below bits) (2 + place) in
    let four = bit_at-lt (ace_below bits) (3 + place) in
    let five = bit_at-lt (ace_below bits) (4 + place) in
    record {
      least = omega arith;
      most = omega arith;
      present = (omega (arith, passes), (omega (arith, passes), (omega (arith, passes), (omega (arith, passes), (omega (arith, passes), tt)))));
    }

-- and the other way round
row_from_run : (bits place : ℕ) → bits < 2 ^ 13 → IsRun bits (place + 3) → bit_at (runs_of (ace_below bits)) place ≡ 1
row_from_run bits place low run =
    let all = runs_of-bit (ace_below bits) place in
    let least = lowest_bit bits place low in
    let second : bit_at (ace_below bits) (1 + place) ≡ bit_at bits (place + 3 - 3) = bit_along (ace_below bits) (1 + place) (suc place) (omega arith) ∙ (bit_at-rank bits place low ∙ bit_along bits place (place + 3 - 3) (omega arith)) in
    let third : bit_at (ace_below bits) (2 + place) ≡ bit_at bits (place + 3 - 2) = bit_along (ace_below bits) (2 + place) (suc (place + 1)) (omega arith) ∙ (bit_at-rank bits (place + 1) low ∙ bit_along bits (place + 1) (place + 3 - 2) (omega arith)) in
    let fourth : bit_at (ace_below bits) (3 + place) ≡ bit_at bits (place + 3 - 1) = bit_along (ace_below bits) (3 + place) (suc (place + 2)) (omega arith) ∙ (bit_at-rank bits (place + 2) low ∙ bit_along bits (place + 2) (place + 3 - 1) (omega arith)) in
    let fifth : bit_at (ace_below bits) (4 + place) ≡ bit_at bits (place + 3) = bit_along (ace_below bits) (4 + place) (suc (place + 3)) (omega arith) ∙ bit_at-rank bits (place + 3) low in
    let five = run.present in
    omega (arith, all, least, second, third, fourth, fifth, five.0, five.1.0, five.1.1.0, five.1.1.1.0, five.1.1.1.1.0)

-- ---- the code's own words

-- the row as the code makes it
abbrev pub row_of : ℕ → ℕ
row_of bits = bits * 2 ^ 1 % 2 ^ 16 + bits / 2 ^ 12

row_is : (bits : ℕ) → bits < 2 ^ 13 → row_of bits ≡ ace_below bits
row_is bits low = ap (λ (n : ℕ). n + bits / 2 ^ 12) (shl_exact {a = bits} 13 1 16 low (omega arith))

pub without_rank : (bits rank : ℕ) → rank < 13 → bits < 2 ^ 13 → IsWithout bits rank (bit_and bits (65535 - 1 * 2 ^ rank % 65536))
without_rank bits rank low range = record {
  gone = bit_at_clear_same w16 bits rank (omega arith);
  kept = λ other differ.
      elim (cases_lt other 16) [
        | inl below ↦ bit_at_clear_other w16 bits rank (omega arith) other below differ
        | inr past ↦
            let none : bit_at bits other ≡ 0 = bit_at_above bits 13 other range (omega arith) in
            let cleared : bit_and bits (65535 - 1 * 2 ^ rank % 65536) < 2 ^ 13 =
            let smaller = and_le_l bits (65535 - 1 * 2 ^ rank % 65536) in omega arith in
            bit_at_above (bit_and bits (65535 - 1 * 2 ^ rank % 65536)) 13 other cleared (omega arith) ∙ sym none
      ];
}

pub one_rank_below : (rank : ℕ) → rank < 13 → 1 * 2 ^ rank % 65536 < 8192
one_rank_below rank low =
    let small : 2 ^ rank < 2 ^ 13 = pow-lt low in
    omega arith

pub one_rank_is : (rank : ℕ) → rank < 13 → 1 * 2 ^ rank % 65536 ≡ 2 ^ rank
one_rank_is rank low =
    let small : 2 ^ rank < 2 ^ 13 = pow-lt low in
    omega arith

runs_below : (bits : ℕ) → bits < 2 ^ 13 → runs_of (ace_below bits) < 2 ^ 10
runs_below bits low =
    let row = ace_below bits in
    let small = and_le_r (bit_and (bit_and (bit_and row (row / 2 ^ 1)) (row / 2 ^ 2)) (row / 2 ^ 3)) (row / 2 ^ 4) in
    let above : bits / 2 ^ 12 < 2 ^ 1 = ace_low bits low in
    let high : row < 2 ^ (10 + 4) = omega arith in
    let short : row / 2 ^ 4 < 2 ^ 10 = shr_lt 10 4 high in
    omega arith

-- where no place begins five in a row, there is no straight
pub no_straight : (bits : ℕ) → bits < 2 ^ 13 → runs_of (row_of bits) ≡ 0 → (top : ℕ) → IsRun bits top → ⊥
no_straight bits low none top run =
    let same : runs_of (row_of bits) ≡ runs_of (ace_below bits) = ap runs_of (row_is bits low) in
    let back : top ≡ top - 3 + 3 = omega (arith, run.least) in
    let P : ℕ → Type 0 = λ n. IsRun bits n in
    let one : bit_at (runs_of (ace_below bits)) (top - 3) ≡ 1 = row_from_run bits (top - 3) low (subst P back run) in
    let zero_bits : bit_at (runs_of (ace_below bits)) (top - 3) ≡ 0 = ap (λ (n : ℕ). bit_at n (top - 3)) (sym same ∙ none) ∙ bit_at-zero (top - 3) in
    omega arith

pub highest_straight : (bits place : ℕ) → bits < 2 ^ 13 → IsHighest (runs_of (row_of bits)) place → place < 10 → IsHighestRun bits (place + 3)
highest_straight bits place low highest short =
    let same : runs_of (row_of bits) ≡ runs_of (ace_below bits) = ap runs_of (row_is bits low) in
    record {
      run = run_from_row bits place low short (ap (λ (n : ℕ). bit_at n place) (sym same) ∙ highest.present);
      greatest = λ other run.
          let back : other ≡ other - 3 + 3 = omega (arith, run.least) in
          let P : ℕ → Type 0 = λ n. IsRun bits n in
          let one : bit_at (runs_of (ace_below bits)) (other - 3) ≡ 1 = row_from_run bits (other - 3) low (subst P back run) in
          let other_row : bit_at (runs_of (row_of bits)) (other - 3) ≡ bit_at (runs_of (ace_below bits)) (other - 3) = ap (λ (n : ℕ). bit_at n (other - 3)) same in
          elim (cases_lt place (other - 3)) [
            | inl past ↦ absurd (omega (arith, highest.above (other - 3) past))
            | inr upto ↦ omega arith
          ];
    }

pub row_runs_below : (bits : ℕ) → bits < 2 ^ 13 → runs_of (row_of bits) < 2 ^ 10
row_runs_below bits low =
    let same : runs_of (row_of bits) ≡ runs_of (ace_below bits) = ap runs_of (row_is bits low) in
    omega (arith, runs_below bits low)

-- the last of the highest ranks
pub last_highest : (bits rank : ℕ) → rank < 13 → bits < 2 ^ 13 → (0 < bits → IsHighest bits rank) → AreHighest bits (rank ∷ [])
last_highest bits rank low range highest = (highest, (bit_and bits (65535 - 1 * 2 ^ rank % 65536), without_rank bits rank low range, tt))
