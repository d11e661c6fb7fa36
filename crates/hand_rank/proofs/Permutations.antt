-- Lists with the same elements: found by their counts, and one element taken from both.
use Rattle.std.proofs.Common.{◌≡◌, ℕ, ◌+◌, ◌<◌, ◌≤◌, List, [], ◌∷◌, length, get_or, cond, eqb, suc, refl, sym, arith, inl, inr, ◌⊎◌}
use Rattle.std.specs.List.{remove, sum_by}
use Rattle.std.specs.List.Sorted.{IsPermutation}
use Rattle.std.proofs.lemmas.Bool.{cases_eq, eq-eqb, ne_eqb, cond-true, cond-false}
use Rattle.std.proofs.lemmas.List.Sums.{sum_by-cons}
use Rattle.std.proofs.lemmas.List.Sorted.{IsPermutation-refl, IsPermutation-sym, IsPermutation-cons, IsPermutation-trans, IsPermutation-remove, sum_by-IsPermutation}

-- one where they are the same
abbrev pub one_if_same : ℕ → ℕ → ℕ
one_if_same x y = cond (eqb y x) 1 0

same_is_one : (x : ℕ) → one_if_same x x ≡ 1
same_is_one x = cond-true (eqb x x) 1 0 (eq-eqb x x refl)

-- x stands at this place of the list
abbrev pub PlaceOf : ℕ → List ℕ → Type 0
PlaceOf x ys = (i : ℕ) × ((i < length ys) × (x ≡ get_or ys i x))

place_from : (x y : ℕ) (ys : List ℕ) → 1 ≤ sum_by (one_if_same x) (y ∷ ys) → (1 ≤ sum_by (one_if_same x) ys → PlaceOf x ys) → (y ≡ x) ⊎ (y ≡ x → ⊥) → PlaceOf x (y ∷ ys)
place_from x y ys h later (inl same) = (0, (omega arith, sym same))
place_from x y ys h later (inr differ) =
    let none : ◌≡◌ {A = ℕ} (cond (eqb y x) 1 0) 0 = cond-false (eqb y x) 1 0 (ne_eqb y x differ) in
    let split : sum_by (one_if_same x) (y ∷ ys) ≡ cond (eqb y x) 1 0 + sum_by (one_if_same x) ys = sum_by-cons (one_if_same x) y ys in
    let left : 1 ≤ sum_by (one_if_same x) ys = omega (arith, none, split) in
    let found : PlaceOf x ys = later left in
    (suc found.0, (omega (arith, found.1.0), found.1.1))

-- what is counted stands somewhere
place_of : (x : ℕ) (ys : List ℕ) → 1 ≤ sum_by (one_if_same x) ys → PlaceOf x ys
place_of x [] h = absurd (omega arith)
place_of x (y ∷ ys) h = place_from x y ys h (place_of x ys) (cases_eq y x)

-- equal counts of every number
pub permutation_from_counts : (xs ys : List ℕ) → ((k : ℕ) → sum_by (one_if_same k) xs ≡ sum_by (one_if_same k) ys) → IsPermutation xs ys
permutation_from_counts [] [] same = IsPermutation-refl []
permutation_from_counts [] (y ∷ ys) same =
    let one : one_if_same y y ≡ 1 = same_is_one y in
    let all : ◌≡◌ {A = ℕ} 0 (sum_by (one_if_same y) (y ∷ ys)) = same y in
    absurd (omega (arith, one, all, sum_by-cons (one_if_same y) y ys))
permutation_from_counts (x ∷ xs) ys same =
    let one : one_if_same x x ≡ 1 = same_is_one x in
    let some : 1 ≤ sum_by (one_if_same x) ys = omega (arith, one, same x, sum_by-cons (one_if_same x) x xs) in
    let found : PlaceOf x ys = place_of x ys some in
    let rest : List ℕ = remove ys found.0 in
    let moved : IsPermutation ys (x ∷ rest) = IsPermutation-remove ys found.0 x found.1.0 found.1.1 in
    let tails : (k : ℕ) → sum_by (one_if_same k) xs ≡ sum_by (one_if_same k) rest = λ k.
    omega (arith, same k, sum_by-cons (one_if_same k) x xs, sum_by-cons (one_if_same k) x rest, sum_by-IsPermutation (one_if_same k) ys (x ∷ rest) moved) in
    IsPermutation-trans (x ∷ xs) (x ∷ rest) ys (IsPermutation-cons x xs rest (permutation_from_counts xs rest tails)) (IsPermutation-sym ys (x ∷ rest) moved)

-- one element taken from both
pub permutation_without : (x : ℕ) (xs ys : List ℕ) → IsPermutation (x ∷ xs) (x ∷ ys) → IsPermutation xs ys
permutation_without x xs ys both =
    permutation_from_counts xs ys (λ k.
    let all : sum_by (one_if_same k) (x ∷ ys) ≡ sum_by (one_if_same k) (x ∷ xs) = sum_by-IsPermutation (one_if_same k) (x ∷ xs) (x ∷ ys) both in
    omega (arith, all, sum_by-cons (one_if_same k) x xs, sum_by-cons (one_if_same k) x ys))
