-- Lists of which each item was changed, and the least of numbers.
use Rattle.std.proofs.Common.{ℕ, zero, suc, ◌≡◌, ◌≢◌, ◌+◌, ◌<◌, ◌≤◌, Bool, true, cond, List, [], ◌∷◌, inl, inr, refl, arith}
use Rattle.std.specs.Prelude.{map, fold, min, count_by, find, All, IfSome}
use Rattle.std.specs.List.{list_any}
use Rattle.std.proofs.lemmas.Bool.{cases_Bool, or_cases, both_ways}

-- what holds of each item, one item after another
abbrev pub Each : {X : Type 0} → (X → Type 0) → List X → Type 0
Each P [] = Unit {0}
Each P (x ∷ xs) = P x × Each P xs

pub each_of_all : {X : Type 0} (P : X → Type 0) (xs : List X) → All P xs → Each P xs
each_of_all P [] all = tt
each_of_all P (x ∷ xs) all = (all zero x (omega arith), each_of_all P xs (λ k d within. all (suc k) d (omega arith)))

module _ {X : Type 0} where
  pub each_changed : (P Q : X → Type 0) (change : X → X) → ((x : X) → P x → Q (change x)) → (xs : List X) → Each P xs → Each Q (map change xs)
  each_changed P Q change each [] all = tt
  each_changed P Q change each (x ∷ xs) all = (each x all.0, each_changed P Q change each xs all.1)

  counted_alike : (p q : X → Bool) (change : X → X) → ((x : X) → q (change x) ≡ p x) → (xs : List X) (a b : ℕ) → a ≡ b
      → fold (λ n x. n + cond (q x) 1 0) a (map change xs) ≡ fold (λ n x. n + cond (p x) 1 0) b xs
  counted_alike p q change same [] a b is = is
  counted_alike p q change same (x ∷ xs) a b is =
      let one = same x in
      counted_alike p q change same xs (a + cond (q (change x)) 1 0) (b + cond (p x) 1 0) (cc)

  pub count_alike : (p q : X → Bool) (change : X → X) → ((x : X) → q (change x) ≡ p x) → (xs : List X) → count_by q (map change xs) ≡ count_by p xs
  count_alike p q change same xs = counted_alike p q change same xs 0 0 refl

  counted_fewer : (p q : X → Bool) → ((x : X) → p x ≡ true → q x ≡ true) → (xs : List X) (a b : ℕ) → a ≤ b
      → fold (λ n x. n + cond (p x) 1 0) a xs ≤ fold (λ n x. n + cond (q x) 1 0) b xs
  counted_fewer p q within [] a b fewer = fewer
  counted_fewer p q within (x ∷ xs) a b fewer =
      let one : a + cond (p x) 1 0 ≤ b + cond (q x) 1 0 =
      elim (cases_Bool (p x)) [
        | inl so ↦ let also = within x so in rw so (rw also (omega (arith, fewer)))
        | inr not_so ↦ rw not_so (omega (arith, fewer))
      ] in
      counted_fewer p q within xs (a + cond (p x) 1 0) (b + cond (q x) 1 0) one

  pub count_fewer : (p q : X → Bool) → ((x : X) → p x ≡ true → q x ≡ true) → (xs : List X) → count_by p xs ≤ count_by q xs
  count_fewer p q within xs = counted_fewer p q within xs 0 0 (omega arith)

  pub fold_alike : (f : ℕ → X → ℕ) (change : X → X) → ((n : ℕ) (x : X) → f n (change x) ≡ f n x) → (xs : List X) (a b : ℕ) → a ≡ b
      → fold f a (map change xs) ≡ fold f b xs
  fold_alike f change same [] a b is = is
  fold_alike f change same (x ∷ xs) a b is = let one = same b x in fold_alike f change same xs (f a (change x)) (f b x) (cc)

  pub any_alike : (p q : X → Bool) (change : X → X) → ((x : X) → q (change x) ≡ p x) → (xs : List X) → list_any q (map change xs) ≡ list_any p xs
  any_alike p q change same [] = refl
  any_alike p q change same (x ∷ xs) = let one = same x in let rest = any_alike p q change same xs in cc

  pub found_of_each : (P : X → Type 0) (p : X → Bool) (xs : List X) → Each P xs → IfSome (find p xs) P
  found_of_each P p [] all = tt
  found_of_each P p (x ∷ xs) all = elim (cases_Bool (p x)) [ inl so ↦ rw so (all.0) | inr not_so ↦ rw not_so (found_of_each P p xs all.1) ]

  -- ---- the least of what a function gives

  least_of_none : (f : X → ℕ) (xs : List X) (start : ℕ) → start ≡ 0 → fold (λ least x. min least (f x)) start xs ≡ 0
  least_of_none f [] start is = is
  least_of_none f (x ∷ xs) start is = least_of_none f xs (min start (f x)) (omega arith)

  pub least_is_none : (f : X → ℕ) (change : X → X) (p : X → Bool) (P : X → Type 0) → ((x : X) → P x → p x ≡ true → f (change x) ≡ 0)
      → (xs : List X) (start : ℕ) → Each P xs → list_any p xs ≡ true → fold (λ least x. min least (f x)) start (map change xs) ≡ 0
  least_is_none f change p P none [] start all any = cc
  least_is_none f change p P none (x ∷ xs) start all any = elim (cases_Bool (p x)) [
    | inl so ↦ let here = none x all.0 so in least_of_none f (map change xs) (min start (f (change x))) (omega arith)
    | inr not_so ↦
        let rest : list_any p xs ≡ true = elim (or_cases (p x) (list_any p xs) any) [ inl so ↦ absurd (both_ways (p x) not_so so) | inr rest ↦ rest ] in
        least_is_none f change p P none xs (min start (f (change x))) all.1 rest
  ]

  pub one_is_none : (f : X → ℕ) (p : X → Bool) → ((x : X) → f x ≡ 0 → p x ≡ true) → (xs : List X) (start : ℕ) → 0 < start
      → fold (λ least x. min least (f x)) start xs ≡ 0 → list_any p xs ≡ true
  one_is_none f p tells [] start some is = absurd (omega arith)
  one_is_none f p tells (x ∷ xs) start some is = elim (cases_Bool (p x)) [
    | inl so ↦ rw so refl
    | inr not_so ↦
        let more : f x ≢ 0 = λ none. both_ways (p x) not_so (tells x none) in
        rw not_so (one_is_none f p tells xs (min start (f x)) (omega (arith, more)) is)
  ]
