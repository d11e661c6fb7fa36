-- The cards that are left: how they are gathered, and that no card stands twice among them and the known ones.
use Rattle.std.proofs.Common.{◌≡◌, ℕ, zero, suc, ◌+◌, ◌<◌, ◌≤◌, Bool, true, false, not, cond, List, [], ◌∷◌, ◌++◌, length, nat_eq, refl, sym, ◌∙◌, ap, arith}
use Rattle.std.specs.List.{AllByRecursion, IsDistinct, filter, list_any, range_with_len}
use Rattle.std.proofs.lemmas.Bool.{or_parts}
use Rattle.std.proofs.lemmas.Bool.Decides.{nat_tests}
use Rattle.std.proofs.lemmas.Cmp.{nat_eq_equiv}
use Rattle.std.proofs.lemmas.List.{append-nil}
use Rattle.std.proofs.lemmas.List.Elements.{filter-append}
use Rattle.luck.specs.Left.{left_of}

-- ---- the cards up to a number

pub range_more : (a n : ℕ) → range_with_len a (suc n) ≡ range_with_len a n ++ (a + n) ∷ []
range_more a zero = let same : a ≡ a + 0 = omega arith in ap (λ k. k ∷ []) same
range_more a (suc n) =
    let same : a + 1 + n ≡ a + suc n = omega arith in
    ap (λ ks. a ∷ ks) (range_more (a + 1) n ∙ ap (λ k. range_with_len (a + 1) n ++ k ∷ []) same)

-- not among the known cards
abbrev pub is_left : List ℕ → ℕ → Bool
is_left known card = not (list_any (λ other. nat_eq card other) known)

pub left_more : (p : ℕ → Bool) (number : ℕ) → p number ≡ true → filter p (range_with_len 0 (number + 1)) ≡ filter p (range_with_len 0 number) ++ number ∷ []
left_more p number passes =
    let next : number + 1 ≡ suc number = omega arith in
    let here : 0 + number ≡ number = omega arith in
    ap (λ n. filter p (range_with_len 0 n)) next
    ∙ ap (filter p) (range_more 0 number)
    ∙ filter-append p (range_with_len 0 number) ((0 + number) ∷ [])
    ∙ ap (λ n. filter p (range_with_len 0 number) ++ filter p (n ∷ [])) here
    ∙ ap (λ (b : Bool). filter p (range_with_len 0 number) ++ cond b (number ∷ []) []) passes

pub left_same : (p : ℕ → Bool) (number : ℕ) → p number ≡ false → filter p (range_with_len 0 (number + 1)) ≡ filter p (range_with_len 0 number)
left_same p number fails =
    let next : number + 1 ≡ suc number = omega arith in
    let here : 0 + number ≡ number = omega arith in
    ap (λ n. filter p (range_with_len 0 n)) next
    ∙ ap (filter p) (range_more 0 number)
    ∙ filter-append p (range_with_len 0 number) ((0 + number) ∷ [])
    ∙ ap (λ n. filter p (range_with_len 0 number) ++ filter p (n ∷ [])) here
    ∙ ap (λ (b : Bool). filter p (range_with_len 0 number) ++ cond b (number ∷ []) []) fails
    ∙ append-nil (filter p (range_with_len 0 number))

pub filter_fewer : (p : ℕ → Bool) (xs : List ℕ) → length (filter p xs) ≤ length xs
filter_fewer p [] = omega arith
filter_fewer p (x ∷ xs) =
    let more = filter_fewer p xs in
    elim (p x) as (λ b. length (cond b (x ∷ filter p xs) (filter p xs)) ≤ length (x ∷ xs)) [ true ↦ omega arith | false ↦ omega arith ]

-- ---- none twice

all_filter : (P : ℕ → Type 0) (p : ℕ → Bool) (xs : List ℕ) → AllByRecursion P xs → AllByRecursion P (filter p xs)
all_filter P p [] all = tt
all_filter P p (x ∷ xs) all =
    let more = all_filter P p xs all.1 in
    elim (p x) as (λ b. AllByRecursion P (cond b (x ∷ filter p xs) (filter p xs))) [ true ↦ (all.0, more) | false ↦ more ]

all_pass : (p : ℕ → Bool) (xs : List ℕ) → AllByRecursion (λ x. p x ≡ true) (filter p xs)
all_pass p [] = tt
all_pass p (x ∷ xs) = by (all_pass p xs) (p x) refl
  where
    by : AllByRecursion (λ y. p y ≡ true) (filter p xs) → (b : Bool) → p x ≡ b → AllByRecursion (λ y. p y ≡ true) (cond b (x ∷ filter p xs) (filter p xs))
    by more true e = (e, more)
    by more false e = more

pub distinct_filter : (p : ℕ → Bool) (xs : List ℕ) → IsDistinct nat_eq xs → IsDistinct nat_eq (filter p xs)
unfolding IsDistinct
distinct_filter p [] distinct = tt
distinct_filter p (x ∷ xs) distinct =
    let first = all_filter (λ y. nat_eq x y ≡ false) p xs distinct.0 in
    let more = distinct_filter p xs distinct.1 in
    elim (p x) as (λ b. IsDistinct nat_eq (cond b (x ∷ filter p xs) (filter p xs))) [ true ↦ (first, more) | false ↦ more ]

above : (low a n : ℕ) → low < a → AllByRecursion (λ y. nat_eq low y ≡ false) (range_with_len a n)
above low a zero lower = tt
above low a (suc n) lower = (grind (arith, nat_tests), above low (a + 1) n (omega arith))

pub range_distinct : (a n : ℕ) → IsDistinct nat_eq (range_with_len a n)
unfolding IsDistinct
range_distinct a zero = tt
range_distinct a (suc n) = (above a (a + 1) n (omega arith), range_distinct (a + 1) n)

-- each of the others isn't among the first
abbrev AreApart : List ℕ → List ℕ → Type 0
AreApart xs ys = AllByRecursion (λ y. list_any (λ other. nat_eq y other) xs ≡ false) ys

first_apart : (x : ℕ) (xs ys : List ℕ) → AreApart (x ∷ xs) ys → AllByRecursion (λ y. nat_eq x y ≡ false) ys
first_apart x xs [] apart = tt
first_apart x xs (y ∷ ys) apart =
    (nat_eq_equiv.symm x y ∙ (or_parts (nat_eq y x) (list_any (λ other. nat_eq y other) xs) apart.0).0, first_apart x xs ys apart.1)

rest_apart : (x : ℕ) (xs ys : List ℕ) → AreApart (x ∷ xs) ys → AreApart xs ys
rest_apart x xs [] apart = tt
rest_apart x xs (y ∷ ys) apart =
    ((or_parts (nat_eq y x) (list_any (λ other. nat_eq y other) xs) apart.0).1, rest_apart x xs ys apart.1)

all_both : (P : ℕ → Type 0) (xs ys : List ℕ) → AllByRecursion P xs → AllByRecursion P ys → AllByRecursion P (xs ++ ys)
all_both P [] ys all others = others
all_both P (x ∷ xs) ys all others = (all.0, all_both P xs ys all.1 others)

distinct_both : (xs ys : List ℕ) → IsDistinct nat_eq xs → IsDistinct nat_eq ys → AreApart xs ys → IsDistinct nat_eq (xs ++ ys)
unfolding IsDistinct
distinct_both [] ys distinct others apart = others
distinct_both (x ∷ xs) ys distinct others apart =
    (all_both (λ y. nat_eq x y ≡ false) xs ys distinct.0 (first_apart x xs ys apart), distinct_both xs ys distinct.1 others (rest_apart x xs ys apart))

left_apart : (known ys : List ℕ) → AllByRecursion (λ y. is_left known y ≡ true) ys → AreApart known ys
left_apart known [] all = tt
left_apart known (y ∷ ys) all = (by (list_any (λ other. nat_eq y other) known) all.0, left_apart known ys all.1)
  where
    by : (b : Bool) → not b ≡ true → b ≡ false
    by true e = sym e
    by false e = refl

-- the known cards and those that are left
pub known_and_left : (known : List ℕ) → IsDistinct nat_eq known → IsDistinct nat_eq (known ++ left_of known)
unfolding left_of
known_and_left known distinct =
    distinct_both known (filter (is_left known) (range_with_len 0 52)) distinct
    (distinct_filter (is_left known) (range_with_len 0 52) (range_distinct 0 52))
    (left_apart known (filter (is_left known) (range_with_len 0 52)) (all_pass (is_left known) (range_with_len 0 52)))
