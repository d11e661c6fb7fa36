-- Lists as sets, maps, and what is below a number.
use Rattle.std.proofs.Common.{◌≡◌, ◌≢◌, ℕ, zero, suc, ◌<◌, ◌⊎◌, inl, inr, ◌==◌, Bool, cond, true, false, eqb-true, get_or, replicate, List, [], ◌∷◌, ◌++◌, refl, ap, arith, eq-eqb, ne_eqb}
use Rattle.protocol_model.specs.Sets.{In, put}

-- all that stands in the first stands in the second
abbrev pub Within : {A : Type 0} → List A → List A → Type 0
Within {A} xs ys = (x : A) → In x xs → In x ys

pub in_later : {A : Type 0} (xs ys : List A) (x : A) → In x ys → In x (xs ++ ys)
in_later [] ys x h = h
in_later (z ∷ xs) ys x h = inr (in_later xs ys x h)

pub in_first : {A : Type 0} (xs ys : List A) (x : A) → In x xs → In x (xs ++ ys)
in_first [] ys x h = absurd h
in_first (z ∷ xs) ys x (inl e) = inl e
in_first (z ∷ xs) ys x (inr h) = inr (in_first xs ys x h)

pub in_split : {A : Type 0} (xs ys : List A) (x : A) → In x (xs ++ ys) → In x xs ⊎ In x ys
in_split [] ys x h = inr h
in_split (z ∷ xs) ys x (inl e) = inl (inl e)
in_split (z ∷ xs) ys x (inr h) = elim (in_split xs ys x h) [ inl l ↦ inl (inr l) | inr r ↦ inr r ]

-- what stands in a list of one thing is that thing
pub only_in : {A : Type 0} (x y : A) → In x (y ∷ []) → x ≡ y
only_in x y (inl e) = e
only_in x y (inr h) = absurd h

-- what is below the next number is this number, or below it
pub last_or_below : (k n : ℕ) → n < suc k → (n ≡ k) ⊎ (n < k)
last_or_below k n less = grind arith

-- where all are the same one thing, it is got at every place, beyond them too
pub all_same : {A : Type 0} (x : A) (k place : ℕ) → get_or (replicate k x) place x ≡ x
all_same x zero place = refl
all_same x (suc k) zero = refl
all_same x (suc k) (suc place) = all_same x k place

pub put_same : {A : Type 0} (map : ℕ → A) (k : ℕ) (x : A) → put map k x k ≡ x
put_same map k x = ap (λ b. cond b x (map k)) (eq-eqb k k refl)

pub put_other : {A : Type 0} (map : ℕ → A) (k : ℕ) (x : A) (j : ℕ) → j ≢ k → put map k x j ≡ map j
put_other map k x j ne = ap (λ b. cond b x (map j)) (ne_eqb j k ne)

-- at each key the map is the old one, or x
pub put_cases : {A : Type 0} (map : ℕ → A) (k : ℕ) (x : A) (j : ℕ) → ((j ≡ k) × (put map k x j ≡ x)) ⊎ (put map k x j ≡ map j)
put_cases map k x j = by_test (j == k) refl
  where
    by_test : (b : Bool) → (j == k) ≡ b → ((j ≡ k) × (put map k x j ≡ x)) ⊎ (put map k x j ≡ map j)
    by_test true is = inl (eqb-true j k is, ap (λ b. cond b x (map j)) is)
    by_test false is = inr (ap (λ b. cond b x (map j)) is)
