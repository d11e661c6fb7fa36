-- A list whose first elements are mixed with those of another, one after another.
use Rattle.std.proofs.Common.{◌≡◌, ℕ, zero, suc, ◌<◌, ◌≤◌, List, [], ◌∷◌, length, get_or, set, bit_xor, refl, ap, arith}
use Rattle.peer_codes.specs.Codes.{xored}

-- the first so many mixed
abbrev pub mixed : ℕ → List ℕ → List ℕ → List ℕ
mixed n [] ys = []
mixed zero (x ∷ xs) ys = x ∷ xs
mixed (suc n) (x ∷ xs) [] = x ∷ xs
mixed (suc n) (x ∷ xs) (y ∷ ys) = bit_xor x y ∷ mixed n xs ys

pub none_mixed : (xs ys : List ℕ) → xs ≡ mixed 0 xs ys
none_mixed [] ys = refl
none_mixed (x ∷ xs) ys = refl

pub mixed_length : (n : ℕ) (xs ys : List ℕ) → length (mixed n xs ys) ≡ length xs
mixed_length n [] ys = refl
mixed_length zero (x ∷ xs) ys = refl
mixed_length (suc n) (x ∷ xs) [] = refl
mixed_length (suc n) (x ∷ xs) (y ∷ ys) = ap suc (mixed_length n xs ys)

pub one_mixed : (xs ys : List ℕ) (n d e : ℕ) → n < length xs → n < length ys → set (mixed n xs ys) n (bit_xor (get_or (mixed n xs ys) n d) (get_or ys n e)) ≡ mixed (suc n) xs ys
one_mixed [] ys n d e less enough = absurd (omega (arith, less))
one_mixed (x ∷ xs) [] n d e less enough = absurd (omega (arith, enough))
one_mixed (x ∷ xs) (y ∷ ys) zero d e less enough = ap (λ rest. bit_xor x y ∷ rest) (none_mixed xs ys)
one_mixed (x ∷ xs) (y ∷ ys) (suc n) d e less enough = ap (λ rest. bit_xor x y ∷ rest) (one_mixed xs ys n d e (omega (arith, less)) (omega (arith, enough)))

pub all_mixed : (xs ys : List ℕ) → length xs ≤ length ys → mixed (length xs) xs ys ≡ xored xs ys
all_mixed [] ys enough = refl
all_mixed (x ∷ xs) [] enough = absurd (omega (arith, enough))
all_mixed (x ∷ xs) (y ∷ ys) enough = ap (λ rest. bit_xor x y ∷ rest) (all_mixed xs ys (omega (arith, enough)))
