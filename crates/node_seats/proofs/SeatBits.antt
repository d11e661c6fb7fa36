-- The bits of seats, one seat after another.
use Rattle.std.proofs.Common.{◌≡◌, ◌≢◌, ℕ, ◌+◌, ◌*◌, ◌/◌, ◌^◌, ◌%◌, ◌<◌, ◌≤◌, Bool, eqb, bit_and, bit_or, zero, suc, inl, inr, w16, arith, refl, ap, sym, subst, ◌∙◌}
use Rattle.std.specs.Int.{bit_at}
use Rattle.std.proofs.lemmas.Bool.{cases_lt}
use Rattle.std.proofs.lemmas.Nat.Bits.{bit_at-zero, bit_at_set_same, bit_at_set_other, bit_at_above, shr_and_one, bit_at-lt}
use Rattle.node_seats.specs.Seating.{bit_of}

pub set_here : (bits number : ℕ) → number < 16 → bit_at (bit_or bits (1 * 2 ^ number % 2 ^ 16)) number ≡ 1
set_here bits number within = bit_at_set_same w16 bits number within

pub set_elsewhere : (bits number : ℕ) → number < 16 → (other : ℕ) → other ≢ number → bit_at (bit_or bits (1 * 2 ^ number % 2 ^ 16)) other ≡ bit_at bits other
set_elsewhere bits number within other differs = bit_at_set_other w16 bits number within other differs

is_bit : (bit : ℕ) → bit < 2 → bit ≡ bit_of (eqb bit 1)
is_bit zero below = refl
is_bit (suc zero) below = refl
is_bit (suc (suc bit)) below = absurd (omega (arith, below))

pub is_lowest : (bits number : ℕ) → bit_at bits number ≡ bit_of (eqb (bit_and (bits / 2 ^ number) 1) 1)
is_lowest bits number = is_bit (bit_at bits number) (bit_at-lt bits number) ∙ ap (λ (bit : ℕ). bit_of (eqb bit 1)) (sym (shr_and_one bits number))

pub none_above : (bits number : ℕ) → bits < 2 ^ 16 → 16 ≤ number → bit_at bits number ≡ 0
none_above bits number below above = bit_at_above bits 16 number below above

-- of the first seats it is told what is asked of each, and the bits behind these aren't set
pub record AreToldTo (asked : ℕ → Bool) (count bits : ℕ) : Type 0 where
  pub told : (seat : ℕ) → seat < count → bit_at bits seat ≡ bit_of (asked seat)
  pub rest : (seat : ℕ) → count ≤ seat → bit_at bits seat ≡ 0

pub no_bits : (asked : ℕ → Bool) → AreToldTo asked 0 0
no_bits asked = record { told = λ seat below. absurd (omega (arith, below)); rest = λ seat above. bit_at-zero seat }

pub one_more : (asked : ℕ → Bool) (count old new : ℕ) → AreToldTo asked count old → (bit_at old count ≡ 0 → bit_at new count ≡ bit_of (asked count)) → ((other : ℕ) → other ≢ count → bit_at new other ≡ bit_at old other)
    → AreToldTo asked (count + 1) new
one_more asked count old new before here others = record {
  told = λ seat below.
      elim (cases_lt seat count) [
        | inl earlier ↦ others seat (λ same. omega (arith, same, earlier)) ∙ before.told seat earlier
        | inr not_earlier ↦
            let is : count ≡ seat = omega (arith, below, not_earlier) in
            subst (λ (n : ℕ). bit_at new n ≡ bit_of (asked n)) is (here (before.rest count (omega arith)))
      ];
  rest = λ seat above. others seat (λ same. omega (arith, same, above)) ∙ before.rest seat (omega (arith, above));
}
