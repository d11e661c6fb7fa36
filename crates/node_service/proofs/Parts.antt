-- Parts of lists.
use Rattle.std.proofs.Common.{inl, inr, List, [], ◌∷◌, ◌++◌, refl}
use Rattle.node_service.specs.Parts.{IsPartOf}

-- what stands in front of the whole is left out
pub left_out : {A : Type 0} (xs front whole : List A) → IsPartOf xs whole → IsPartOf xs (front ++ whole)
left_out [] front whole part = tt
left_out (x ∷ xs) [] whole part = part
left_out (x ∷ xs) (y ∷ front) whole part = inr (left_out (x ∷ xs) front whole part)

-- one behind the other
pub both : {A : Type 0} (xs ys whole others : List A) → IsPartOf xs whole → IsPartOf ys others → IsPartOf (xs ++ ys) (whole ++ others)
both [] ys whole others part other = left_out ys whole others other
both (x ∷ xs) ys [] others part other = absurd part
both (x ∷ xs) ys (y ∷ whole) others part other = elim part as (λ _. IsPartOf ((x ∷ xs) ++ ys) ((y ∷ whole) ++ others)) [
  | inl here ↦ inl (here.0, both xs ys whole others here.1 other)
  | inr there ↦ inr (both (x ∷ xs) ys whole others there other)
]

pub all_of_it : {A : Type 0} (xs : List A) → IsPartOf xs xs
all_of_it [] = tt
all_of_it (x ∷ xs) = inl (refl, all_of_it xs)
