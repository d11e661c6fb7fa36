-- The front of a line that is kept.
use Rattle.std.proofs.Common.{◌≡◌, ℕ, ◌+◌, ◌≤◌, List, [], ◌∷◌, ◌++◌, length, take, sym, ◌∙◌, arith}
use Rattle.std.proofs.lemmas.List.{take_all, take-append-le, length-append}

-- one more element where there is room
pub take_room : (n : ℕ) (xs : List ℕ) (x : ℕ) → length xs + 1 ≤ n → xs ++ x ∷ [] ≡ take n (xs ++ x ∷ [])
take_room n xs x room = sym (take_all n (xs ++ x ∷ []) (omega (arith, length-append xs (x ∷ []))))

-- one more where there is none
pub take_full : (n : ℕ) (xs : List ℕ) (x : ℕ) → length xs ≡ n → xs ≡ take n (xs ++ x ∷ [])
take_full n xs x full = sym (take-append-le n xs (x ∷ []) (omega arith) ∙ take_all n xs (omega arith))
