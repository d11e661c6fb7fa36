-- Totals of amounts that are added, weighed and moved.
use Rattle.std.proofs.Common.{◌≡◌, ℕ, zero, suc, ◌+◌, ◌<◌, ◌≤◌, ℤ, pos, negsuc, ◌+ℤ◌, ◌-ℤ◌, List, [], ◌∷◌, length, map, get_or, refl, sym, ◌∙◌, ap, arith}
use Rattle.std.specs.Prelude.{◌*ℤ◌}
use Rattle.std.specs.List.{fold, range_with_len}
use Rattle.std.proofs.lemmas.Int.{ints}
use Rattle.std.proofs.Math.IntN.{pos-*ℤ-pos, pos-*ℤ-negsuc, zero-*ℤ, *ℤ-zero}
use Rattle.side_pots.specs.Pots.{total}

from_start : (start : ℤ) (xs : List ℤ) → fold ◌+ℤ◌ start xs ≡ start +ℤ total xs
from_start start [] = omega (arith, ints)
from_start start (x ∷ xs) = omega (arith, ints, from_start (start +ℤ x) xs, from_start (pos 0 +ℤ x) xs)

first_and_rest : (x : ℤ) (xs : List ℤ) → total (x ∷ xs) ≡ x +ℤ total xs
first_and_rest x xs = omega (arith, ints, from_start (pos 0 +ℤ x) xs)

pub total_added : (xs ys zs : List ℤ) → length zs ≡ length xs → length ys ≤ length xs → ((k : ℕ) → k < length xs → get_or zs k (pos 0) ≡ get_or xs k (pos 0) +ℤ get_or ys k (pos 0)) → total zs ≡ total xs +ℤ total ys
total_added [] [] [] same few each = omega (arith, ints)
total_added [] (y ∷ ys) zs same few each = absurd (omega arith)
total_added [] [] (z ∷ zs) same few each = absurd (omega arith)
total_added (x ∷ xs) ys [] same few each = absurd (omega arith)
total_added (x ∷ xs) [] (z ∷ zs) same few each =
    let more = total_added xs [] zs (omega arith) (omega arith) (λ k below. each (suc k) (omega arith)) in
    omega (arith, ints, first_and_rest x xs, first_and_rest z zs, more, each 0 (omega arith))
total_added (x ∷ xs) (y ∷ ys) (z ∷ zs) same few each =
    let more = total_added xs ys zs (omega arith) (omega arith) (λ k below. each (suc k) (omega arith)) in
    omega (arith, ints, first_and_rest x xs, first_and_rest y ys, first_and_rest z zs, more, each 0 (omega arith))

weight_more : (weight : ℕ) (x : ℤ) → pos (suc weight) *ℤ x ≡ x +ℤ pos weight *ℤ x
weight_more weight (pos n) = omega (arith, ints, pos-*ℤ-pos (suc weight) n, pos-*ℤ-pos weight n)
weight_more weight (negsuc n) = omega (arith, ints, pos-*ℤ-negsuc (suc weight) n, pos-*ℤ-negsuc weight n)

weight_both : (weight : ℕ) (x y : ℤ) → pos weight *ℤ (x +ℤ y) ≡ pos weight *ℤ x +ℤ pos weight *ℤ y
weight_both zero x y = omega (arith, ints, zero-*ℤ (x +ℤ y), zero-*ℤ x, zero-*ℤ y)
weight_both (suc weight) x y = omega (arith, ints, weight_more weight (x +ℤ y), weight_more weight x, weight_more weight y, weight_both weight x y)

total_weighed : (weight : ℕ) (xs zs : List ℤ) → length zs ≡ length xs → ((k : ℕ) → k < length xs → get_or zs k (pos 0) ≡ pos weight *ℤ get_or xs k (pos 0)) → total zs ≡ pos weight *ℤ total xs
total_weighed weight [] [] same each = sym (*ℤ-zero (pos weight))
total_weighed weight [] (z ∷ zs) same each = absurd (omega arith)
total_weighed weight (x ∷ xs) [] same each = absurd (omega arith)
total_weighed weight (x ∷ xs) (z ∷ zs) same each =
    let more = total_weighed weight xs zs (omega arith) (λ k below. each (suc k) (omega arith)) in
    let first : total (x ∷ xs) ≡ x +ℤ total xs = first_and_rest x xs in
    omega (arith, ints, ap (λ t. pos weight *ℤ t) first, weight_both weight x (total xs), first_and_rest z zs, more, each 0 (omega arith))

pub total_weighed_none : (weight : ℕ) (xs zs : List ℤ) → length zs ≡ length xs → total xs ≡ pos 0 → ((k : ℕ) → k < length xs → get_or zs k (pos 0) ≡ pos weight *ℤ get_or xs k (pos 0)) → total zs ≡ pos 0
total_weighed_none weight xs zs same none each = total_weighed weight xs zs same each ∙ ap (λ t. pos weight *ℤ t) none ∙ *ℤ-zero (pos weight)

pub total_moved : (olds befores behinds news : List ℤ) → length news ≡ length olds → length befores ≡ length olds → length behinds ≡ length olds
    → ((k : ℕ) → k < length olds → get_or news k (pos 0) ≡ get_or olds k (pos 0) +ℤ (get_or behinds k (pos 0) -ℤ get_or befores k (pos 0))) → total news ≡ total olds +ℤ (total behinds -ℤ total befores)
total_moved [] [] [] [] same also too each = omega (arith, ints)
total_moved [] [] [] (new ∷ news) same also too each = absurd (omega arith)
total_moved [] [] (behind ∷ behinds) news same also too each = absurd (omega arith)
total_moved [] (before ∷ befores) behinds news same also too each = absurd (omega arith)
total_moved (old ∷ olds) [] behinds news same also too each = absurd (omega arith)
total_moved (old ∷ olds) (before ∷ befores) [] news same also too each = absurd (omega arith)
total_moved (old ∷ olds) (before ∷ befores) (behind ∷ behinds) [] same also too each = absurd (omega arith)
total_moved (old ∷ olds) (before ∷ befores) (behind ∷ behinds) (new ∷ news) same also too each =
    let more = total_moved olds befores behinds news (omega arith) (omega arith) (omega arith) (λ k below. each (suc k) (omega arith)) in
    omega (arith, ints, first_and_rest old olds, first_and_rest before befores, first_and_rest behind behinds, first_and_rest new news, more, each 0 (omega arith))

-- a list by a function of its places, behind some of which it has 0
pub total_as : (values : List ℤ) (f : ℕ → ℤ) (first count : ℕ) → count ≤ length values → ((k : ℕ) → k < length values → get_or values k (pos 0) ≡ f (first + k)) → ((k : ℕ) → count ≤ k → k < length values → f (first + k) ≡ pos 0)
    → total values ≡ total (map f (range_with_len first count))
total_as [] f first zero few each none = refl
total_as [] f first (suc count) few each none = absurd (omega arith)
total_as (value ∷ values) f first zero few each none =
    let later : (k : ℕ) → first + suc k ≡ first + 1 + k = λ k. omega arith in
    let more : total values ≡ pos 0 = total_as values f (first + 1) 0 (omega arith) (λ k below. each (suc k) (omega arith) ∙ ap f (later k)) (λ k above below. sym (ap f (later k)) ∙ none (suc k) (omega arith) (omega arith)) in
    omega (arith, ints, first_and_rest value values, more, each 0 (omega arith), none 0 (omega arith) (omega arith))
total_as (value ∷ values) f first (suc count) few each none =
    let later : (k : ℕ) → first + suc k ≡ first + 1 + k = λ k. omega arith in
    let here : first + 0 ≡ first = omega arith in
    let more = total_as values f (first + 1) count (omega arith) (λ k below. each (suc k) (omega arith) ∙ ap f (later k)) (λ k above below. sym (ap f (later k)) ∙ none (suc k) (omega arith) (omega arith)) in
    omega (arith, ints, first_and_rest value values, first_and_rest (f first) (map f (range_with_len (first + 1) count)), more, each 0 (omega arith), ap f here)
