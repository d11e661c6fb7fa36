-- Members of a quorum, counted.
use Rattle.std.proofs.Common.{◌≡◌, ◌≢◌, ℕ, zero, suc, ◌<◌, ◌≤◌, ◌+◌, ◌⊎◌, inl, inr, Bool, true, false, ◌==◌, if◌then◌else◌, List, [], ◌∷◌, refl, sym, ap, subst, ◌∙◌, arith, length, eq-eqb}
use Rattle.std.proofs.lemmas.Bool.{eqb-true, eqb-false}
use Rattle.std.proofs.lemmas.Bool.Decides.{eqb_tells}
use Rattle.protocol_model.specs.Sets.{In}
use Rattle.protocol_model.specs.Quorums.{count}
use Rattle.node_rules.specs.Calm.{Rise, without}

-- ---- sets as tests

abbrev pub is_in : List ℕ → ℕ → Bool
is_in [] k = false
is_in (m ∷ ms) k = if k == m then true else is_in ms k

pub in_is : (ms : List ℕ) (k : ℕ) → In k ms → is_in ms k ≡ true
in_is [] k h = absurd h
in_is (m ∷ ms) k (inl e) = ap (λ (b : Bool). if b then true else is_in ms k) (eq-eqb k m e)
in_is (m ∷ ms) k (inr h) = by_test (k == m) (in_is ms k h)
  where
    by_test : (b : Bool) → is_in ms k ≡ true → (if b then true else is_in ms k) ≡ true
    by_test true e = refl
    by_test false e = e

is_step : (ms : List ℕ) (m k : ℕ) (b : Bool) → (k == m) ≡ b → (is_in ms k ≡ true → In k ms) → (if b then true else is_in ms k) ≡ true → In k (m ∷ ms)
is_step ms m k true e later h = inl (eqb-true k m e)
is_step ms m k false e later h = inr (later h)

pub is_in_in : (ms : List ℕ) (k : ℕ) → is_in ms k ≡ true → In k ms
is_in_in [] k h = absurd (cc)
is_in_in (m ∷ ms) k h = is_step ms m k (k == m) refl (λ e. is_in_in ms k e) h

pub not_in : (ms : List ℕ) (k : ℕ) → (In k ms → ⊥) → is_in ms k ≡ false
not_in ms k none = by_test (is_in ms k) refl
  where
    by_test : (b : Bool) → is_in ms k ≡ b → is_in ms k ≡ false
    by_test true e = absurd (none (is_in_in ms k e))
    by_test false e = e

-- ---- counting

count_step : (b c : Bool) (x y : ℕ) → b ≡ c → x ≡ y → (if b then 1 + x else x) ≡ (if c then 1 + y else y)
count_step b c x y e f = λ j. if e j then 1 + f j else f j

pub count_same : (p q : ℕ → Bool) (n : ℕ) → ((k : ℕ) → k < n → p k ≡ q k) → count p n ≡ count q n
count_same p q zero same = refl
count_same p q (suc n) same = count_step (p n) (q n) (count p n) (count q n) (same n (omega arith)) (count_same p q n (λ k l. same k (omega arith)))

-- one more is in the set
one_more_step : (m n : ℕ) (p : ℕ → Bool) (b : Bool) → (n == m) ≡ b → m < suc n → p m ≡ false → (m < n → count (λ k. if k == m then true else p k) n ≡ 1 + count p n)
    → (if (if b then true else p n) then 1 + count (λ k. if k == m then true else p k) n else count (λ k. if k == m then true else p k) n) ≡ 1 + (if p n then 1 + count p n else count p n)
one_more_step m n p true e low out later =
    let same : n ≡ m = eqb-true n m e in
    let inside : count (λ k. if k == m then true else p k) n ≡ count p n =
    count_same (λ k. if k == m then true else p k) p n (λ k l. ap (λ (b : Bool). if b then true else p k) (by_case k l same (eqb_tells k m))) in
    let here : p n ≡ false = ap p same ∙ out in
    ap (λ (x : ℕ). 1 + x) inside ∙ sym (ap (λ (b : Bool). 1 + (if b then 1 + count p n else count p n)) here)
  where
    by_case : (k : ℕ) → k < n → n ≡ m → ((k == m) ≡ true) × (k ≡ m) ⊎ ((k == m) ≡ false) × (k ≢ m) → (k == m) ≡ false
    by_case k l same (inl eq) = absurd (let a = eq.1 in omega (arith, a, same))
    by_case k l same (inr ne) = ne.0
one_more_step m n p false e low out later = by_last (p n) (later (let other : n ≢ m = eqb-false n m e in omega (arith, other)))
  where
    by_last : (b : Bool) → count (λ k. if k == m then true else p k) n ≡ 1 + count p n
        → (if b then 1 + count (λ k. if k == m then true else p k) n else count (λ k. if k == m then true else p k) n) ≡ 1 + (if b then 1 + count p n else count p n)
    by_last true h = ap (λ (x : ℕ). 1 + x) h
    by_last false h = h

pub count_more : (m n : ℕ) (p : ℕ → Bool) → m < n → p m ≡ false → count (λ k. if k == m then true else p k) n ≡ 1 + count p n
count_more m zero p low out = absurd (omega arith)
count_more m (suc n) p low out = one_more_step m n p (n == m) refl low out (λ l. count_more m n p l out)

count_none : (n : ℕ) → count (λ k. false) n ≡ 0
count_none zero = refl
count_none (suc n) = count_none n

-- no number stands twice, and all are below n
abbrev pub AreDistinct : ℕ → List ℕ → Type 0
AreDistinct n [] = Unit {0}
AreDistinct n (m ∷ ms) = (m < n) × (In m ms → ⊥) × AreDistinct n ms

pub count_list : (n : ℕ) (ms : List ℕ) → AreDistinct n ms → count (is_in ms) n ≡ length ms
count_list n [] d = count_none n
count_list n (m ∷ ms) d = count_more m n (is_in ms) d.0 (not_in ms m d.1) ∙ ap (λ (x : ℕ). 1 + x) (count_list n ms d.2) ∙ suc_of (length ms)
  where
    suc_of : (k : ℕ) → 1 + k ≡ suc k
    suc_of k = omega arith

-- ---- numbers that rise

pub above_all : (from n : ℕ) (ms : List ℕ) (k : ℕ) → Rise from n ms → In k ms → (from ≤ k) × (k < n)
above_all from n [] k rise h = absurd h
above_all from n (m ∷ ms) k rise (inl e) = let a = rise.0 in let b = rise.1 in (omega (arith, e), omega (arith, e))
above_all from n (m ∷ ms) k rise (inr h) = let t = above_all (m + 1) n ms k rise.2 h in let a = rise.0 in let b = t.0 in (omega arith, t.1)

pub lower_rise : (from low n : ℕ) (ms : List ℕ) → low ≤ from → Rise from n ms → Rise low n ms
lower_rise from low n [] l rise = tt
lower_rise from low n (m ∷ ms) l rise = ((let a = rise.0 in omega arith), rise.1, rise.2)

pub rise_distinct : (from n : ℕ) (ms : List ℕ) → Rise from n ms → AreDistinct n ms
rise_distinct from n [] rise = tt
rise_distinct from n (m ∷ ms) rise = (rise.1, (λ h. let t = above_all (m + 1) n ms m rise.2 h in let a = t.0 in omega arith), rise_distinct (m + 1) n ms rise.2)

-- ---- without one

without_step : (i m : ℕ) (ms : List ℕ) (k : ℕ) (b : Bool) → (m == i) ≡ b → (In k (without i ms) → In k ms × (k ≢ i)) → In k (if b then without i ms else m ∷ without i ms) → In k (m ∷ ms) × (k ≢ i)
without_step i m ms k true e later h = let t = later h in (inr t.0, t.1)
without_step i m ms k false e later (inl same) = (inl same, λ eq. eqb-false m i e (sym same ∙ eq))
without_step i m ms k false e later (inr h) = let t = later h in (inr t.0, t.1)

pub without_in : (i : ℕ) (ms : List ℕ) (k : ℕ) → In k (without i ms) → In k ms × (k ≢ i)
without_in i [] k h = absurd h
without_in i (m ∷ ms) k h = without_step i m ms k (m == i) refl (λ t. without_in i ms k t) h

others_step : (i m : ℕ) (ms : List ℕ) (k : ℕ) (b : Bool) → (m == i) ≡ b → k ≢ i → (k ≡ m) ⊎ In k (without i ms) → In k (if b then without i ms else m ∷ without i ms)
others_step i m ms k true e ne (inl same) = absurd (ne (same ∙ eqb-true m i e))
others_step i m ms k true e ne (inr h) = h
others_step i m ms k false e ne (inl same) = inl same
others_step i m ms k false e ne (inr h) = inr h

pub in_without : (i : ℕ) (ms : List ℕ) (k : ℕ) → In k ms → k ≢ i → In k (without i ms)
in_without i [] k h ne = absurd h
in_without i (m ∷ ms) k (inl e) ne = others_step i m ms k (m == i) refl ne (inl e)
in_without i (m ∷ ms) k (inr h) ne = others_step i m ms k (m == i) refl ne (inr (in_without i ms k h ne))

rise_step : (i m from n : ℕ) (ms : List ℕ) (b : Bool) → from ≤ m → m < n → Rise (m + 1) n (without i ms) → Rise from n (if b then without i ms else m ∷ without i ms)
rise_step i m from n ms true low high rise = lower_rise (m + 1) from n (without i ms) (omega arith) rise
rise_step i m from n ms false low high rise = (low, high, rise)

pub without_rise : (i from n : ℕ) (ms : List ℕ) → Rise from n ms → Rise from n (without i ms)
without_rise i from n [] rise = tt
without_rise i from n (m ∷ ms) rise = rise_step i m from n ms (m == i) rise.0 rise.1 (without_rise i (m + 1) n ms rise.2)

-- a list without a number that isn't in it is as long
absent_step : (i m : ℕ) (ms : List ℕ) (b : Bool) → (m == i) ≡ b → m ≢ i → length (without i ms) ≡ length ms → length (if b then without i ms else m ∷ without i ms) ≡ suc (length ms)
absent_step i m ms true e ne h = absurd (ne (eqb-true m i e))
absent_step i m ms false e ne h = ap (λ (k : ℕ). suc k) h

absent_length : (i n : ℕ) (ms : List ℕ) → AreDistinct n ms → (In i ms → ⊥) → length (without i ms) ≡ length ms
absent_length i n [] d none = refl
absent_length i n (m ∷ ms) d none = absent_step i m ms (m == i) refl (λ e. none (inl (sym e))) (absent_length i n ms d.2 (λ h. none (inr h)))

member_step : (i m n : ℕ) (ms : List ℕ) (b : Bool) → (m == i) ≡ b → AreDistinct n ms → (In m ms → ⊥) → (i ≡ m) ⊎ In i ms → (In i ms → suc (length (without i ms)) ≡ length ms)
    → suc (length (if b then without i ms else m ∷ without i ms)) ≡ suc (length ms)
member_step i m n ms true e d out h later = ap (λ (k : ℕ). suc k) (absent_length i n ms d (λ x. out (subst (λ (k : ℕ). In k ms) (sym (eqb-true m i e)) x)))
member_step i m n ms false e d out (inl same) later = absurd (eqb-false m i e (sym same))
member_step i m n ms false e d out (inr h) later = ap (λ (k : ℕ). suc k) (later h)

pub without_length : (i n : ℕ) (ms : List ℕ) → AreDistinct n ms → In i ms → suc (length (without i ms)) ≡ length ms
without_length i n [] d h = absurd h
without_length i n (m ∷ ms) d h = member_step i m n ms (m == i) refl d.2 d.1 h (λ t. without_length i n ms d.2 t)
