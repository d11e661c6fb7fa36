-- A list whose first elements are replaced, one after another.
use Rattle.std.proofs.Common.{◌≡◌, ℕ, zero, suc, ◌<◌, List, [], ◌∷◌, map, length, get_or, set, refl, ap, arith}

-- the first so many mapped
abbrev pub mapped : (ℕ → ℕ) → ℕ → List ℕ → List ℕ
mapped f n [] = []
mapped f zero (x ∷ xs) = x ∷ xs
mapped f (suc n) (x ∷ xs) = f x ∷ mapped f n xs

none_mapped : (f : ℕ → ℕ) (xs : List ℕ) → mapped f 0 xs ≡ xs
none_mapped f [] = refl
none_mapped f (x ∷ xs) = refl

pub begins : (f : ℕ → ℕ) (xs : List ℕ) → xs ≡ mapped f 0 xs
begins f [] = refl
begins f (x ∷ xs) = refl

pub one_more : (f : ℕ → ℕ) (xs : List ℕ) (n d : ℕ) → n < length xs → set (mapped f n xs) n (f (get_or (mapped f n xs) n d)) ≡ mapped f (suc n) xs
one_more f [] n d less = absurd (omega (arith, less))
one_more f (x ∷ xs) zero d less = ap (λ rest. f x ∷ rest) (begins f xs)
one_more f (x ∷ xs) (suc n) d less = ap (λ rest. f x ∷ rest) (one_more f xs n d (omega (arith, less)))

pub all_mapped : (f : ℕ → ℕ) (xs : List ℕ) → mapped f (length xs) xs ≡ map f xs
all_mapped f [] = refl
all_mapped f (x ∷ xs) = ap (λ rest. f x ∷ rest) (all_mapped f xs)
