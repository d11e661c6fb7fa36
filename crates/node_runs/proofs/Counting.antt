-- How many of a list pass a test, and what a filter behind a filter keeps.
use Rattle.std.proofs.Common.{◌≡◌, ℕ, ◌+◌, ◌-◌, ◌<◌, ◌≤◌, ◌&&◌, Bool, true, false, cond, List, [], ◌∷◌, ◌++◌, refl, sym, ap, ◌∙◌, subst, arith}
use Rattle.std.specs.List.{count_by, filter}
use Rattle.std.specs.Prelude.{nat_lt, nat_le}
use Rattle.std.proofs.lemmas.Bool.{and_parts, ltb-true, leb-true, lt-ltb, false≢true, cond-false, false_from_ne_true}
use Rattle.std.proofs.lemmas.List.Sums.{sum_by-cons, sum_by_push, sum_by-le-sum_by}
use Rattle.node_runs.specs.NoteLimits.{is_within, is_recent, lines_within, IsAtMost, second}
use Rattle.node_runs.specs.declared.note_limits.Count.{Count}

and_true : (b : Bool) → b ≡ (b && true)
and_true true = refl
and_true false = refl

none_counted : (b : Bool) (n : ℕ) → n ≡ cond (b && false) 1 0 + n
none_counted true n = omega arith
none_counted false n = omega arith

module _ {X : Type 0} where
  left_over : (q : X → Bool) (x : X) (a : Bool) (ys xs : List X) → (q x ≡ true → a ≡ true) → filter q ys ≡ filter q xs → filter q (cond a (x ∷ ys) ys) ≡ cond (q x) (x ∷ filter q xs) (filter q xs)
  left_over q x true ys xs has is = ap (λ (l : List X). cond (q x) (x ∷ l) l) is
  left_over q x false ys xs has is = is ∙ sym (cond-false (q x) (x ∷ filter q xs) (filter q xs) (false_from_ne_true (q x) (λ was. false≢true (has was))))

  -- what is left of what was left
  pub filter-filter : (p q : X → Bool) → ((x : X) → q x ≡ true → p x ≡ true) → (xs : List X) → filter q (filter p xs) ≡ filter q xs
  filter-filter p q has [] = refl
  filter-filter p q has (x ∷ xs) = left_over q x (p x) (filter p xs) xs (has x) (filter-filter p q has xs)

  count_cond : (p : X → Bool) (b : Bool) (x : X) (ys : List X) → count_by p (cond b (x ∷ ys) ys) ≡ cond (p x && b) 1 0 + count_by p ys
  count_cond p true x ys = sum_by-cons (λ (y : X). cond (p y) 1 0) x ys ∙ ap (λ (t : Bool). cond t 1 0 + count_by p ys) (and_true (p x))
  count_cond p false x ys = none_counted (p x) (count_by p ys)

  -- how many of what was left pass a test
  pub count_in_filter : (p q : X → Bool) (xs : List X) → count_by p (filter q xs) ≡ count_by (λ (x : X). p x && q x) xs
  count_in_filter p q [] = refl
  count_in_filter p q (x ∷ xs) =
      count_cond p (q x) x (filter q xs) ∙ (ap (λ (n : ℕ). cond (p x && q x) 1 0 + n) (count_in_filter p q xs) ∙ sym (sum_by-cons (λ (y : X). cond (p y && q y) 1 0) x xs))

implied : (a b c : Bool) → (b ≡ true → c ≡ true) → cond (a && b) 1 0 ≤ cond (a && c) 1 0
implied true true c has = let e = has refl in rw e (omega arith)
implied true false c has = omega arith
implied false b c has = omega arith

by_case : (b : Bool) (n most : ℕ) → n ≤ most → (b ≡ true → n < most) → n + cond b 1 0 ≤ most
by_case true n most few room = let r = room refl in omega arith
by_case false n most few room = omega arith

-- a line of the second in which this moment is was told in the last second before it
within_recent : (start clock : ℕ) → start ≤ clock → clock < start + second → (x : Count) → is_within start x ≡ true → is_recent clock x ≡ true
within_recent start clock least most x is =
    let parts = and_parts (nat_le start x.time) (nat_lt x.time (start + second)) is in
    let after = leb-true start x.time parts.0 in
    lt-ltb (clock - x.time) second (omega arith)

-- one line more, where fewer were told in the last second than may be
pub at_most_more : (most : ℕ) (which : Count → Bool) (clock : ℕ) (recent told : List Count) (one : Count) → recent ≡ filter (is_recent clock) told → one.time ≡ clock → IsAtMost most which told
    → (which one ≡ true → count_by which recent < most) → IsAtMost most which (told ++ one ∷ [])
at_most_more most which clock recent told one is time few room = λ start.
    subst (λ (n : ℕ). n ≤ most) (sym (sum_by_push (λ (x : Count). cond (which x && is_within start x) 1 0) told one))
    (by_case (which one && is_within start one) (lines_within start which told) most (few start) (λ both.
    let parts = and_parts (which one) (is_within start one) both in
    let ends = and_parts (nat_le start one.time) (nat_lt one.time (start + second)) parts.1 in
    let after = leb-true start one.time ends.0 in
    let before = ltb-true one.time (start + second) ends.1 in
    let here : start ≤ clock = omega arith in
    let in_time : clock < start + second = omega arith in
    let fewer : lines_within start which told ≤ count_by (λ (x : Count). which x && is_recent clock x) told =
    sum_by-le-sum_by (λ (x : Count). cond (which x && is_within start x) 1 0) (λ (x : Count). cond (which x && is_recent clock x) 1 0) told
    (λ x. implied (which x) (is_within start x) (is_recent clock x) (within_recent start clock here in_time x)) in
    let counted : count_by which recent ≡ count_by (λ (x : Count). which x && is_recent clock x) told =
    ap (count_by which) is ∙ count_in_filter which (is_recent clock) told in
    let left = room parts.0 in
    omega (arith, fewer, counted, left)))
