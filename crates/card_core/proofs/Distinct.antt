-- Walking down a list: nothing stands there twice where the first isn't among the rest, in which nothing does.
use Rattle.std.proofs.Common.{◌≡◌, ◌<◌, ◌≤◌, ◌-◌, ◌↔◌, ℕ, zero, suc, Bool, true, false, List, [], ◌∷◌, length, get_or, take, drop, arith, rules, ap, refl, sym, ◌∙◌}
use Rattle.std.specs.List.{IsDistinct, AllByRecursion, list_any}
use Rattle.std.proofs.lemmas.Map.Keys.{IsDistinct-head, IsDistinct-tail, IsDistinct-cons}
use Rattle.std.proofs.lemmas.Grind.{common_steps}

pub none_from_any : {X : Type 0} (p : X → Bool) (xs : List X) → list_any p xs ≡ false → AllByRecursion (λ y. p y ≡ false) xs
none_from_any p [] e = tt
none_from_any p (x ∷ xs) e = search (arith, common_steps, none_from_any p xs)

pub any_from_none : {X : Type 0} (p : X → Bool) (xs : List X) → AllByRecursion (λ y. p y ≡ false) xs → list_any p xs ≡ false
any_from_none p [] e = refl
any_from_none p (x ∷ xs) e = let k = any_from_none p xs e.1 in rw (e.0, k) refl

pub IsDistinct-empty : {X : Type 0} (eq : X → X → Bool) (xs : List X) → length xs < 1 → IsDistinct eq xs
unfolding IsDistinct
IsDistinct-empty eq [] h = tt
IsDistinct-empty eq (x ∷ xs) h = absurd (omega arith)

abbrev pub rest_of : {X : Type 0} → List X → List X
rest_of xs = take (length xs - 1) (drop 1 xs)

rest_of-cons : {X : Type 0} (x : X) (xs : List X) → rest_of (x ∷ xs) ≡ xs
rest_of-cons x xs = search (arith, common_steps, rules)

pub IsDistinct-first :
    {X : Type 0} (eq : X → X → Bool) (xs : List X) (first seen : X) →
    1 ≤ length xs → first ≡ get_or xs 0 first → seen ≡ first →
    list_any (λ y. eq seen y) (rest_of xs) ≡ false →
    IsDistinct eq xs ↔ IsDistinct eq (rest_of xs)
IsDistinct-first eq [] first seen h i n e = absurd (omega arith)
IsDistinct-first eq (x ∷ xs) first seen h i n e =
    let r = rest_of-cons x xs in
    let any : list_any (λ y. eq x y) xs ≡ false =
    ap (λ z. list_any (λ y. eq z y) xs) (sym (n ∙ i)) ∙ ap (λ ys. list_any (λ y. eq seen y) ys) (sym r) ∙ e in
    rw r (λ d. IsDistinct-tail eq x xs d, λ d. IsDistinct-cons eq x xs (none_from_any _ xs any) d)

pub IsDistinct-first_repeated :
    {X : Type 0} (eq : X → X → Bool) (xs : List X) (first seen : X) →
    1 ≤ length xs → first ≡ get_or xs 0 first → seen ≡ first →
    list_any (λ y. eq seen y) (rest_of xs) ≡ true →
    IsDistinct eq xs → ⊥
IsDistinct-first_repeated eq [] first seen h i n e d = absurd (omega arith)
IsDistinct-first_repeated eq (x ∷ xs) first seen h i n e d =
    let r = rest_of-cons x xs in
    let any : list_any (λ y. eq x y) xs ≡ true =
    ap (λ z. list_any (λ y. eq z y) xs) (sym (n ∙ i)) ∙ ap (λ ys. list_any (λ y. eq seen y) ys) (sym r) ∙ e in
    let none = any_from_none (λ y. eq x y) xs (IsDistinct-head eq x xs d) in
    cc

pub All-take : {X : Type 0} (P : X → Type 0) (n : ℕ) (xs : List X) → AllByRecursion P xs → AllByRecursion P (take n xs)
All-take P zero xs all = tt
All-take P (suc n) [] all = tt
All-take P (suc n) (x ∷ xs) all = (all.0, All-take P n xs all.1)

pub IsDistinct-take : {X : Type 0} (eq : X → X → Bool) (n : ℕ) (xs : List X) → IsDistinct eq xs → IsDistinct eq (take n xs)
unfolding IsDistinct
IsDistinct-take eq zero xs distinct = tt
IsDistinct-take eq (suc n) [] distinct = tt
IsDistinct-take eq (suc n) (x ∷ xs) distinct = (All-take (λ y. eq x y ≡ false) n xs distinct.0, IsDistinct-take eq n xs distinct.1)
