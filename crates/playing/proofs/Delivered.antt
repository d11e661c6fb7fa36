-- Frames that were delivered.
use Rattle.std.proofs.Common.{◌≡◌, ◌⊎◌, ℕ, zero, suc, ◌+◌, ◌<◌, Bool, true, List, inl, inr, ap, subst, sym, refl, arith, ⊎_elim}
use Rattle.std.specs.Prelude.{slice_get, Some}
use Rattle.playing.specs.Marks.{AreDelivered}

less_or_same : (n m : ℕ) → n < m + 1 → (n < m) ⊎ (n ≡ m)
less_or_same zero zero h = inr refl
less_or_same zero (suc m) h = inl (omega arith)
less_or_same (suc n) zero h = absurd (omega arith)
less_or_same (suc n) (suc m) h = ⊎_elim (λ l. inl (omega (arith, l))) (λ e. inr (ap suc e)) (less_or_same n m (omega arith))

-- one more, where all before it were
pub delivered_more : (marks : List Bool) (place : ℕ) → AreDelivered marks place → slice_get marks place ≡ Some true → AreDelivered marks (place + 1)
delivered_more marks place are here number less =
    ⊎_elim (λ l. are number l) (λ e. subst (λ (i : ℕ). slice_get marks i ≡ Some true) (sym e) here) (less_or_same number place less)
