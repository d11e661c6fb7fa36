-- What a loop that reads a list has read, and what it still reads.
use Rattle.std.proofs.Common.{◌≡◌, ℕ, List, [], ◌∷◌, ◌++◌, Option, Some, None, refl, ap, append_assoc}
use Rattle.paxos_wire.specs.Reading.{◌>>=◌}

-- what was read before, and what is still read
abbrev pub with_front : {A : Type 0} → List A → Option (List A × List ℕ) → Option (List A × List ℕ)
with_front front read = read >>= λ x. Some (front ++ x.0, x.1)

pub regroup : {A : Type 0} (front : List A) (a : A) (read : Option (List A × List ℕ)) → with_front front (read >>= λ x. Some (a ∷ x.0, x.1)) ≡ with_front (front ++ a ∷ []) read
regroup {A} front a (Some x) = ap (λ (xs : List A). Some (xs, x.1)) (simp append_assoc)
regroup front a None = refl
