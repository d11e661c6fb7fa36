-- How many positions pass a test.
use Rattle.std.proofs.Common.{◌≡◌, ℕ, zero, suc, ◌+◌, ◌<◌, ◌≤◌, ◌≢◌, Bool, true, false, cond, refl, arith, inl, inr, add-one}
use Rattle.std.proofs.lemmas.Bool.{cases_lt}
use Rattle.betting.specs.Turns.{count_below}

pub count_below-add : (P : ℕ → Bool) (n : ℕ) → count_below P (n + 1) ≡ count_below P n + cond (P n) 1 0
unfolding count_below
count_below-add P n = rw add-one refl

pub count_below-zero : (P : ℕ → Bool) → count_below P 0 ≡ 0
unfolding count_below
count_below-zero P = refl

pub count_below-same : (P Q : ℕ → Bool) (n : ℕ) → ((k : ℕ) → k < n → P k ≡ Q k) → count_below P n ≡ count_below Q n
unfolding count_below
count_below-same P Q zero h = refl
count_below-same P Q (suc n) h =
    let e : P n ≡ Q n = h n (omega arith) in
    let r : count_below P n ≡ count_below Q n = count_below-same P Q n (λ k b. h k (omega arith)) in
    rw (e, r) refl

pub count_below-le : (P : ℕ → Bool) (n : ℕ) → count_below P n ≤ n
unfolding count_below
count_below-le P zero = omega arith
count_below-le P (suc n) = grind (arith, count_below-le P n)

pub count_below-none : (P : ℕ → Bool) (n : ℕ) → ((k : ℕ) → k < n → P k ≡ false) → count_below P n ≡ 0
unfolding count_below
count_below-none P zero h = refl
count_below-none P (suc n) h =
    let e : P n ≡ false = h n (omega arith) in
    let r : count_below P n ≡ 0 = count_below-none P n (λ k b. h k (omega arith)) in
    rw (e, r) refl

-- one position less
pub count_below-one_less : (P Q : ℕ → Bool) (n p : ℕ) → p < n → P p ≡ true → Q p ≡ false
    → ((k : ℕ) → k < n → k ≢ p → Q k ≡ P k) → count_below Q n + 1 ≡ count_below P n
unfolding count_below
count_below-one_less P Q zero p b e f h = absurd (omega arith)
count_below-one_less P Q (suc n) p b e f h = elim (cases_lt p n) [
  | inl less ↦
      let at : Q n ≡ P n = h n (omega arith) (omega arith) in
      let r : count_below Q n + 1 ≡ count_below P n = count_below-one_less P Q n p less e f (λ k kb ne. h k (omega arith) ne) in
      rw at (omega (arith, r))
  | inr more ↦
      let same : n ≡ p = omega arith in
      let yes : P n ≡ true = rw same e in
      let no : Q n ≡ false = rw same f in
      let r : count_below Q n ≡ count_below P n = count_below-same Q P n (λ k kb. h k (omega arith) (omega arith)) in
      rw (yes, no, r) (omega arith)
]

pub count_below-some : (P : ℕ → Bool) (n p : ℕ) → p < n → P p ≡ true → 0 < count_below P n
unfolding count_below
count_below-some P zero p b e = absurd (omega arith)
count_below-some P (suc n) p b e = elim (cases_lt p n) [
  | inl less ↦ omega (arith, count_below-some P n p less e)
  | inr more ↦
      let same : n ≡ p = omega arith in
      let yes : P n ≡ true = rw same e in
      rw yes (omega arith)
]

-- where some pass, one does
pub count_below-witness : (P : ℕ → Bool) (n : ℕ) → 0 < count_below P n → (k : ℕ) × (k < n) × (P k ≡ true)
unfolding count_below
count_below-witness P zero h = absurd (omega arith)
count_below-witness P (suc n) h =
    (elim (P n) as (λ b. P n ≡ b → (k : ℕ) × (k < suc n) × (P k ≡ true)) [
      | true ↦ λ e. (n, omega arith, e)
      | false ↦ λ e.
          let positive : 0 < count_below P n + 0 = rw e at h in
          let r : (k : ℕ) × (k < n) × (P k ≡ true) = count_below-witness P n (omega (arith, positive)) in
          (r.0, omega (arith, r.1), r.2)
    ]) refl

pub counted_yes : (P : ℕ → Bool) (n c : ℕ) → c ≡ count_below P n → P n ≡ true → c + 1 ≡ count_below P (n + 1)
counted_yes P n c e passes = rw (count_below-add P n, passes, e) refl

pub counted_no : (P : ℕ → Bool) (n c : ℕ) → c ≡ count_below P n → P n ≡ false → c ≡ count_below P (n + 1)
counted_no P n c e fails = rw (count_below-add P n, fails, e) (omega arith)

pub counted_fits : (P : ℕ → Bool) (n c : ℕ) → c ≡ count_below P n → c ≤ n
counted_fits P n c e = rw e (count_below-le P n)

-- the count covers what one position adds
pub count_below-covers : (P : ℕ → Bool) (n p : ℕ) (b : Bool) → p < n → P p ≡ b → cond b 1 0 ≤ count_below P n
count_below-covers P n p true b e = omega (arith, count_below-some P n p b e)
count_below-covers P n p false b e = omega arith
