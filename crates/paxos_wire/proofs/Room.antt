-- The texts of the first entries and of the next one: no longer than those of all, and those of one entry more.
use Rattle.std.proofs.Common.{◌≡◌, ℕ, zero, suc, ◌+◌, ◌<◌, ◌≤◌, List, [], ◌∷◌, ◌++◌, length, take, get_or, sym, ap, ◌∙◌, arith, length-append}
use Rattle.std.specs.List.{flat_map}
use Rattle.std.proofs.lemmas.List.{take_more, flat_map_more}
use Rattle.std.proofs.lemmas.List.Concat.{flat_map-cons}

pub room_for : {A : Type 0} (f : A → List ℕ) (es : List A) (i : ℕ) (e : A) → i < length es → e ≡ get_or es i e
    → length (flat_map f (take i es)) + length (f e) ≤ length (flat_map f es)
room_for f [] i e lt is = absurd (omega arith)
room_for f (x ∷ es) zero e lt is = rw flat_map-cons (omega (arith, length-append (f x) (flat_map f es), ap (λ a. length (f a)) is))
room_for f (x ∷ es) (suc i) e lt is =
    let rest = room_for f es i e (omega arith) is in
    let front : length (flat_map f (x ∷ take i es)) ≡ length (f x) + length (flat_map f (take i es)) = rw flat_map-cons (length-append (f x) (flat_map f (take i es))) in
    let whole : length (flat_map f (x ∷ es)) ≡ length (f x) + length (flat_map f es) = rw flat_map-cons (length-append (f x) (flat_map f es)) in
    omega (arith, rest, front, whole)

pub and_next : {A : Type 0} (f : A → List ℕ) (xs : List A) (i : ℕ) (x : A) → i < length xs → x ≡ get_or xs i x → flat_map f (take i xs) ++ f x ≡ flat_map f (take (i + 1) xs)
and_next {A} f xs i x lt is = sym (ap (flat_map f) (take_more xs i x lt ∙ ap (λ (y : A). take i xs ++ y ∷ []) (sym is)) ∙ sym (flat_map_more f [] (take i xs) x))
