-- Sums and tests over the numbers from one up to another.
use Rattle.std.proofs.Common.{inl, inr, ◌≡◌, ℕ, ◌+◌, ◌-◌, ◌<◌, ◌≤◌, Bool, true, false, List, ◌∷◌, ◌++◌, get_or, zero, suc, refl, sym, ◌∙◌, ap, arith}
use Rattle.std.specs.List.{list_all, range_with_len, sum_by}
use Rattle.std.proofs.lemmas.Bool.{and_from, cases_eq}
use Rattle.std.proofs.lemmas.List.Folds.{list_all_at}
use Rattle.std.proofs.lemmas.List.FromFn.{get_or-range_with_len, length-range_with_len}
use Rattle.std.proofs.lemmas.List.Sums.{sum_by-append, sum_by-cons}

pub range-append : (a m k : ℕ) → range_with_len a (m + k) ≡ range_with_len a m ++ range_with_len (a + m) k
range-append a zero k =
    let front : zero + k ≡ k = omega arith in
    let start : a + zero ≡ a = omega arith in
    ap (range_with_len a) front ∙ ap (λ (x : ℕ). range_with_len x k) (sym start)
range-append a (suc m) k =
    let front : suc m + k ≡ suc (m + k) = omega arith in
    let start : a + 1 + m ≡ a + suc m = omega arith in
    ap (range_with_len a) front
    ∙ ap (λ (xs : List ℕ). a ∷ xs) (range-append (a + 1) m k ∙ ap (λ (x : ℕ). range_with_len (a + 1) m ++ range_with_len x k) start)

pub sum_range-split : (f : ℕ → ℕ) (a m k : ℕ) → sum_by f (range_with_len a (m + k)) ≡ sum_by f (range_with_len a m) + sum_by f (range_with_len (a + m) k)
sum_range-split f a m k = ap (sum_by f) (range-append a m k) ∙ sum_by-append f (range_with_len a m) (range_with_len (a + m) k)

pub sum_range-first : (f : ℕ → ℕ) (a k : ℕ) → sum_by f (range_with_len a (suc k)) ≡ f a + sum_by f (range_with_len (a + 1) k)
sum_range-first f a k = sum_by-cons f a (range_with_len (a + 1) k)

pub sum_range-same : (f g : ℕ → ℕ) (a k : ℕ) → ((v : ℕ) → a ≤ v → v < a + k → f v ≡ g v) → sum_by f (range_with_len a k) ≡ sum_by g (range_with_len a k)
sum_range-same f g a zero same = refl
sum_range-same f g a (suc k) same =
    omega (
      arith,
      sum_range-first f a k,
      sum_range-first g a k,
      same a (omega arith) (omega arith),
      sum_range-same f g (a + 1) k (λ v from to. same v (omega arith) (omega arith)),
    )

pub sum_range-none : (f : ℕ → ℕ) (a k : ℕ) → ((v : ℕ) → a ≤ v → v < a + k → f v ≡ 0) → sum_by f (range_with_len a k) ≡ 0
sum_range-none f a zero none = refl
sum_range-none f a (suc k) none =
    omega (
      arith,
      sum_range-first f a k,
      none a (omega arith) (omega arith),
      sum_range-none f (a + 1) k (λ v from to. none v (omega arith) (omega arith)),
    )

-- only one of them counts
pub sum_range-only : (f : ℕ → ℕ) (a k p : ℕ) → a ≤ p → p < a + k → ((v : ℕ) → (v ≡ p → ⊥) → f v ≡ 0) → sum_by f (range_with_len a k) ≡ f p
sum_range-only f a zero p from to others = absurd (omega arith)
sum_range-only f a (suc k) p from to others =
    elim (cases_eq a p) [
      | inl same ↦ omega (arith, sum_range-first f a k, ap f same, sum_range-none f (a + 1) k (λ v above below. others v (λ (e : v ≡ p). omega arith)))
      | inr differ ↦ omega (arith, sum_range-first f a k, others a differ, sum_range-only f (a + 1) k p (omega arith) (omega arith) others)
    ]

pub all_range : (p : ℕ → Bool) (a k : ℕ) → ((v : ℕ) → a ≤ v → v < a + k → p v ≡ true) → list_all p (range_with_len a k) ≡ true
all_range p a zero all = refl
all_range p a (suc k) all = and_from (p a) (list_all p (range_with_len (a + 1) k)) (all a (omega arith) (omega arith)) (all_range p (a + 1) k (λ v from to. all v (omega arith) (omega arith)))

pub not_all_range : (p : ℕ → Bool) (a k v : ℕ) → a ≤ v → v < a + k → p v ≡ false → list_all p (range_with_len a k) ≡ false
not_all_range p a k v from to fails =
    let place : v - a < k = omega arith in
    let at : get_or (range_with_len a k) (v - a) 0 ≡ v = omega (arith, get_or-range_with_len a k (v - a) 0 place) in
    list_all_at p (range_with_len a k) (v - a) 0 (omega (arith, length-range_with_len a k)) (ap p at ∙ fails)
