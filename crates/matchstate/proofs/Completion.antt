-- What is seen of a deal is in place, and what is in place is seen of some deal: unused cards fill the rest.
use Rattle.std.proofs.Common.{◌≡◌, ℕ, zero, suc, ◌+◌, ◌<◌, ◌≤◌, ◌≢◌, true, false, cond, eqb, List, [], ◌∷◌, ◌++◌, length, refl, sym, ap, ◌∙◌, arith, inl, inr, length-append}
use Rattle.std.proofs.lemmas.Bool.Decides.{eqb_tells, nat_tests}
use Rattle.std.proofs.lemmas.List.{append-nil}
use Rattle.matchstate.proofs.Counts.{count_of, most_of, IsPart, count_of-append}

-- xs without all places of x
without : ℕ → List ℕ → List ℕ
without x [] = []
without x (y ∷ ys) = cond (eqb y x) (without x ys) (y ∷ without x ys)

length-without : (x : ℕ) (xs : List ℕ) → length (without x xs) + count_of x xs ≡ length xs
unfolding without
length-without x [] = omega arith
length-without x (y ∷ ys) =
    let rest = length-without x ys in
    elim (eqb y x) as (λ b. length (cond b (without x ys) (y ∷ without x ys)) + (cond b 1 0 + count_of x ys) ≡ suc (length ys)) [
      | true ↦ omega arith
      | false ↦ omega arith
    ]

count_of-without : (x c : ℕ) (xs : List ℕ) → c ≢ x → count_of c (without x xs) ≡ count_of c xs
unfolding without
count_of-without x c [] other = refl
count_of-without x c (y ∷ ys) other =
    let rest = count_of-without x c ys other in
    elim (eqb_tells y x) [
      | inl same ↦
          let differs : eqb y c ≡ false = let e : y ≡ x = same.1 in grind (arith, nat_tests) in
          rw (same.0, differs) (omega arith)
      | inr apart ↦ rw apart.0 (omega arith)
    ]

-- fewer than m cards leave one below m
pub fresh_card : (m : ℕ) (xs : List ℕ) → length xs < m → (c : ℕ) × (c < m) × (count_of c xs ≡ 0)
fresh_card zero xs few = absurd (omega arith)
fresh_card (suc m) xs few =
    elim (eqb_tells (count_of m xs) 0) [
      | inl none ↦ (m, omega arith, none.1)
      | inr some ↦
          let found = fresh_card m (without m xs) (omega (arith, length-without m xs, some.1)) in
          let small : found.0 < m = found.1 in
          let other : found.0 ≢ m = omega arith in
          (found.0, omega arith, sym (count_of-without m found.0 xs other) ∙ found.2)
    ]

unused_parts : (x : ℕ) (xs ys : List ℕ) → count_of x (xs ++ ys) ≡ 0 → count_of x xs + count_of x ys ≡ 0
unused_parts x xs ys none = sym (count_of-append x xs ys) ∙ none

-- k unused cards
pub fresh_cards : (k : ℕ) (xs : List ℕ) → length xs + k ≤ 52 → IsPart xs → (fresh : List ℕ) × (length fresh ≡ k) × IsPart (xs ++ fresh)
fresh_cards zero xs room part = ([], refl, rw append-nil part)
fresh_cards (suc k) xs room part =
    let rest = fresh_cards k xs (omega arith) part in
    let enough : length (xs ++ rest.0) < 52 = omega (arith, length-append xs rest.0, rest.1) in
    let found = fresh_card 52 (xs ++ rest.0) enough in
    let small : found.0 < 52 = found.1 in
    let unused : count_of found.0 xs + count_of found.0 rest.0 ≡ 0 = unused_parts found.0 xs rest.0 found.2 in
    let each : IsPart (xs ++ found.0 ∷ rest.0) = λ x.
    let before : count_of x xs + count_of x rest.0 ≤ most_of x = rw count_of-append at (rest.2 x) in
    rw count_of-append (elim (eqb_tells found.0 x) [
      | inl same ↦
          let e : found.0 ≡ x = same.1 in
          let none : count_of x xs + count_of x rest.0 ≡ 0 = rw e at unused in
          let one : most_of x ≡ 1 = grind (arith, nat_tests) in
          rw (same.0, one) (omega arith)
      | inr apart ↦ rw apart.0 (omega arith)
    ]) in
    (found.0 ∷ rest.0, ap suc rest.1, each)
