-- How often a card stands in a list: distinct cards of the pack stand there at most once.
use Rattle.std.proofs.Common.{◌≡◌, ℕ, zero, suc, ◌+◌, ◌<◌, ◌≤◌, Bool, true, false, cond, eqb, ltb, nat_eq, List, [], ◌∷◌, ◌++◌, take, drop, refl, arith, inl, inr}
use Rattle.std.specs.List.{IsDistinct, AllByRecursion}
use Rattle.std.proofs.lemmas.Bool.Decides.{eqb_tells, nat_tests}

-- how often x stands in a list
abbrev pub count_of : ℕ → List ℕ → ℕ
count_of x [] = 0
count_of x (y ∷ ys) = cond (eqb y x) 1 0 + count_of x ys

-- once for a card of the pack, never for another number
abbrev pub most_of : ℕ → ℕ
most_of x = cond (ltb x 52) 1 0

-- each card of the pack stands there at most once, and nothing else does
abbrev pub IsPart : List ℕ → Type 0
IsPart xs = (x : ℕ) → count_of x xs ≤ most_of x

pub count_of-append : (x : ℕ) (xs ys : List ℕ) → count_of x (xs ++ ys) ≡ count_of x xs + count_of x ys
count_of-append x [] ys = omega arith
count_of-append x (y ∷ xs) ys = omega (arith, count_of-append x xs ys)

pub count_of-take-drop : (x : ℕ) (n : ℕ) (xs : List ℕ) → count_of x (take n xs) + count_of x (drop n xs) ≡ count_of x xs
count_of-take-drop x zero xs = omega arith
count_of-take-drop x (suc n) [] = omega arith
count_of-take-drop x (suc n) (y ∷ xs) = omega (arith, count_of-take-drop x n xs)

-- what differs from all elements stands there never
absent : (x : ℕ) (xs : List ℕ) → AllByRecursion (λ y. nat_eq x y ≡ false) xs → count_of x xs ≡ 0
absent x [] apart = refl
absent x (y ∷ xs) apart =
    let other = apart.0 in
    let rest = absent x xs apart.1 in
    grind (arith, nat_tests)

one_or_more : (b : Bool) (n : ℕ) → b ≡ true → cond b 1 0 + n ≡ 0 → ⊥
one_or_more true n e h = omega arith
one_or_more false n e h = cc

pub from_absent : (x : ℕ) (xs : List ℕ) → count_of x xs ≡ 0 → AllByRecursion (λ y. nat_eq x y ≡ false) xs
from_absent x [] none = tt
from_absent x (y ∷ xs) none =
    elim (eqb_tells y x) [
      | inl same ↦ absurd (one_or_more (eqb y x) (count_of x xs) same.0 none)
      | inr apart ↦ (grind (arith, nat_tests), from_absent x xs (omega arith))
    ]

pub IsPart-from_pack : (xs : List ℕ) → AllByRecursion (λ card. card < 52) xs → IsDistinct nat_eq xs → IsPart xs
unfolding IsDistinct
IsPart-from_pack [] pack distinct x = omega arith
IsPart-from_pack (y ∷ xs) pack distinct x =
    let rest = IsPart-from_pack xs pack.1 distinct.1 x in
    elim (eqb_tells y x) [
      | inl same ↦
          let none : count_of x xs ≡ 0 = let e : y ≡ x = same.1 in rw (← e) (absent y xs distinct.0) in
          let here : most_of x ≡ 1 = let small : y < 52 = pack.0 in let e : y ≡ x = same.1 in grind (arith, nat_tests) in
          rw (same.0, none, here) (omega arith)
      | inr apart ↦ rw apart.0 (omega arith)
    ]

pub pack_from_IsPart : (xs : List ℕ) → IsPart xs → AllByRecursion (λ card. card < 52) xs × IsDistinct nat_eq xs
unfolding IsDistinct
pack_from_IsPart [] part = (tt, tt)
pack_from_IsPart (y ∷ xs) part =
    let here = part y in
    let tested : eqb y y ≡ true = grind (arith, nat_tests) in
    let once : 1 + count_of y xs ≤ most_of y = rw tested at here in
    let small : y < 52 = grind (arith, nat_tests) in
    let none : count_of y xs ≡ 0 = grind (arith, nat_tests) in
    let rest = pack_from_IsPart xs (λ x. let whole = part x in omega arith) in
    ((small, rest.0), (from_absent y xs none, rest.1))
