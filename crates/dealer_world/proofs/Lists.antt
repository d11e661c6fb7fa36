-- Lists with something in them, and lists the other way round.
use Rattle.std.proofs.Common.{◌≡◌, ◌≢◌, inl, inr, List, [], ◌∷◌, ◌++◌, map, reverse, refl, ap, sym, ◌∙◌, subst}
use Rattle.std.proofs.lemmas.List.{reverse-reverse, map-append}
use Rattle.slot_log.proofs.Hands.{reverse-cons}
use Rattle.protocol_model.specs.Sets.{In}
use Rattle.protocol_model.proofs.Sets.{in_first, in_later}

pub cons_not_nil : {A : Type 0} (x : A) (xs : List A) → (x ∷ xs) ≢ []
cons_not_nil x xs e = cc

pub reverse_map : {A B : Type 0} (f : A → B) (xs : List A) → reverse (map f xs) ≡ map f (reverse xs)
reverse_map f [] = refl
reverse_map f (x ∷ xs) =
    reverse-cons (f x) (map f xs) ∙ (ap (λ ys. ys ++ f x ∷ []) (reverse_map f xs) ∙ (sym (map-append f (reverse xs) (x ∷ [])) ∙ ap (map f) (sym (reverse-cons x xs))))

pub in_reverse : {A : Type 0} (xs : List A) (x : A) → In x xs → In x (reverse xs)
in_reverse [] x h = elim h [ ]
in_reverse (y ∷ xs) x (inl e) = subst (In x) (sym (reverse-cons y xs)) (in_later (reverse xs) (y ∷ []) x (inl e))
in_reverse (y ∷ xs) x (inr h) = subst (In x) (sym (reverse-cons y xs)) (in_first (reverse xs) (y ∷ []) x (in_reverse xs x h))

pub in_reversed : {A : Type 0} (xs : List A) (x : A) → In x (reverse xs) → In x xs
in_reversed xs x h = subst (In x) (reverse-reverse xs) (in_reverse (reverse xs) x h)
