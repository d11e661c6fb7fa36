-- The first position that passes a test, from one onwards and round.
use Rattle.std.proofs.Common.{◌≡◌, ℕ, zero, suc, ◌+◌, ◌-◌, ◌<◌, ◌≤◌, Bool, true, false, cond, Option, Some, None, refl, sym, ap, ◌∙◌, arith, inl, inr, ◌⊎◌}
use Rattle.std.proofs.lemmas.Bool.{cases_lt}
use Rattle.std.proofs.lemmas.Option.{same_Some}
use Rattle.betting.specs.Rounds.{first_from, first_cyclic}

-- one position is met before another by a search from `start` onwards and round
pub data Before (start : ℕ) : ℕ → ℕ → Type 0 where
  above : {p q : ℕ} → start ≤ p → p < q → Before start p q
  around : {p q : ℕ} → start ≤ p → q < start → Before start p q
  below : {p q : ℕ} → p < q → q < start → Before start p q

pub before_cases : (start p q : ℕ) → Before start p q ⊎ (p ≡ q) ⊎ Before start q p
before_cases start p q = elim (cases_lt p q) [
  | inl less ↦ elim (cases_lt p start) [
    | inl low ↦ elim (cases_lt q start) [ inl l ↦ inl (below less l) | inr m ↦ inr (inr (around m low)) ]
    | inr high ↦ inl (above high less)
  ]
  | inr more ↦ elim (cases_lt q p) [
    | inl less ↦ elim (cases_lt q start) [
      | inl low ↦ elim (cases_lt p start) [ inl l ↦ inr (inr (below less l)) | inr m ↦ inl (around m low) ]
      | inr high ↦ inr (inr (above high less))
    ]
    | inr same ↦ inr (inl (omega arith))
  ]
]

-- a search from behind `p` meets two others in the same order, where the search from `start` met `p` first
pub before-turned : (start p q r : ℕ) → Before start p q → Before start p r → Before (p + 1) q r → Before start q r
before-turned start p q r (above a b) (above c d) (above e f) = above (omega arith) f
before-turned start p q r (above a b) (above c d) (around e f) = absurd (omega arith)
before-turned start p q r (above a b) (above c d) (below e f) = absurd (omega arith)
before-turned start p q r (above a b) (around c d) (above e f) = absurd (omega arith)
before-turned start p q r (above a b) (around c d) (around e f) = around (omega arith) d
before-turned start p q r (above a b) (around c d) (below e f) = absurd (omega arith)
before-turned start p q r (above a b) (below c d) x = absurd (omega arith)
before-turned start p q r (around a b) (above c d) (above e f) = absurd (omega arith)
before-turned start p q r (around a b) (above c d) (around e f) = absurd (omega arith)
before-turned start p q r (around a b) (above c d) (below e f) = absurd (omega arith)
before-turned start p q r (around a b) (around c d) (above e f) = absurd (omega arith)
before-turned start p q r (around a b) (around c d) (around e f) = absurd (omega arith)
before-turned start p q r (around a b) (around c d) (below e f) = below e d
before-turned start p q r (around a b) (below c d) x = absurd (omega arith)
before-turned start p q r (below a b) (above c d) x = absurd (omega arith)
before-turned start p q r (below a b) (around c d) x = absurd (omega arith)
before-turned start p q r (below a b) (below c d) (above e f) = below f d
before-turned start p q r (below a b) (below c d) (around e f) = absurd (omega arith)
before-turned start p q r (below a b) (below c d) (below e f) = absurd (omega arith)

-- nothing comes behind the last
pub not_before_last : (p q : ℕ) → Before (p + 1) p q → ⊥
not_before_last p q (above a b) = omega arith
not_before_last p q (around a b) = omega arith
not_before_last p q (below a b) = omega arith

pub record FirstFrom (P : ℕ → Bool) (start count p : ℕ) : Type 0 where
  pub passes : P p ≡ true
  pub least : start ≤ p
  pub most : p < start + count
  pub first : (q : ℕ) → start ≤ q → q < p → P q ≡ false

pub first_from-suc : (P : ℕ → Bool) (start count : ℕ) → first_from P start (suc count) ≡ cond (P start) (Some start) (first_from P (start + 1) count)
unfolding first_from
first_from-suc P start count =
    elim (P start) as (λ b. elim b [ true ↦ Some start | false ↦ first_from P (start + 1) count ] ≡ cond b (Some start) (first_from P (start + 1) count)) [ true ↦ refl | false ↦ refl ]

pub first_from-finds : (P : ℕ → Bool) (start count p : ℕ) → first_from P start count ≡ Some p → FirstFrom P start count p
unfolding first_from
first_from-finds P start zero p e = absurd (cc)
first_from-finds P start (suc count) p e =
    (elim (P start) as (λ b. P start ≡ b → cond b (Some start) (first_from P (start + 1) count) ≡ Some p → FirstFrom P start (suc count) p) [
      | true ↦ λ yes e.
          let here : start ≡ p = same_Some _ _ e in
          record { passes = rw (← here) yes; least = omega arith; most = omega arith; first = λ q a b. absurd (omega arith) }
      | false ↦ λ no e.
          let rest : FirstFrom P (start + 1) count p = first_from-finds P (start + 1) count p e in
          record {
            passes = rest.passes;
            least = omega (arith, rest.least);
            most = omega (arith, rest.most);
            first = λ q a b. elim (cases_lt start q) [
              | inl behind ↦ rest.first q (omega arith) b
              | inr here ↦ let same : q ≡ start = omega arith in rw same no
            ];
          }
    ]) refl (sym (first_from-suc P start count) ∙ e)

pub first_from-none : (P : ℕ → Bool) (start count : ℕ) → first_from P start count ≡ None → (q : ℕ) → start ≤ q → q < start + count → P q ≡ false
first_from-none P start zero e q a b = absurd (omega arith)
first_from-none P start (suc count) e q a b =
    (elim (P start) as (λ c. P start ≡ c → cond c (Some start) (first_from P (start + 1) count) ≡ None → P q ≡ false) [
      | true ↦ λ yes e. cc
      | false ↦ λ no e. elim (cases_lt start q) [
        | inl behind ↦ first_from-none P (start + 1) count e q (omega arith) (omega arith)
        | inr here ↦ let same : q ≡ start = omega arith in rw same no
      ]
    ]) refl (sym (first_from-suc P start count) ∙ e)

pub first_from-same : (P Q : ℕ → Bool) (start count : ℕ) → ((k : ℕ) → start ≤ k → k < start + count → P k ≡ Q k) → first_from P start count ≡ first_from Q start count
first_from-same P Q start zero h = unfold first_from in refl
first_from-same P Q start (suc count) h =
    let here : P start ≡ Q start = h start (omega arith) (omega arith) in
    let rest : first_from P (start + 1) count ≡ first_from Q (start + 1) count = first_from-same P Q (start + 1) count (λ k a b. h k (omega arith) (omega arith)) in
    rw (first_from-suc P start count, first_from-suc Q start count, here, rest) refl

pub record FirstCyclic (P : ℕ → Bool) (players start p : ℕ) : Type 0 where
  pub passes : P p ≡ true
  pub most : p < players
  pub first : (q : ℕ) → q < players → Before start q p → P q ≡ false

found_above : (P : ℕ → Bool) (players start p : ℕ) → start ≤ players → FirstFrom P start (players - start) p → FirstCyclic P players start p
found_above P players start p b found =
    let least : start ≤ p = found.least in
    let most : p < start + (players - start) = found.most in
    record { passes = found.passes; most = omega arith; first = λ q within before. before_found q before }
  where
    before_found : (q : ℕ) → Before start q p → P q ≡ false
    before_found q (above x y) = found.first q x y
    before_found q (around x y) = absurd (let least : start ≤ p = found.least in omega arith)
    before_found q (below x y) = absurd (let least : start ≤ p = found.least in omega arith)

found_around : (P : ℕ → Bool) (players start p : ℕ) → start ≤ players → first_from P start (players - start) ≡ None → FirstFrom P 0 start p → FirstCyclic P players start p
found_around P players start p b none found =
    let most : p < 0 + start = found.most in
    record { passes = found.passes; most = omega arith; first = λ q within before. before_found q within before }
  where
    before_found : (q : ℕ) → q < players → Before start q p → P q ≡ false
    before_found q w (above x y) = absurd (let most : p < 0 + start = found.most in omega arith)
    before_found q w (around x y) = first_from-none P start (players - start) none q x (omega arith)
    before_found q w (below x y) = found.first q (omega arith) x

pub first_cyclic-finds : (P : ℕ → Bool) (players start p : ℕ) → start ≤ players → first_cyclic P players start ≡ Some p → FirstCyclic P players start p
unfolding first_cyclic
first_cyclic-finds P players start p b e =
    (elim (first_from P start (players - start)) as (λ o. first_from P start (players - start) ≡ o → elim o [ Some position ↦ Some position | None ↦ first_from P 0 start ] ≡ Some p → FirstCyclic P players start p) [
      | Some q ↦ λ is e.
          let same : q ≡ p = same_Some _ _ e in
          found_above P players start p b (first_from-finds P start (players - start) p (rw same at is))
      | None ↦ λ is e. found_around P players start p b is (first_from-finds P 0 start p e)
    ]) refl e

pub first_cyclic-some : (P : ℕ → Bool) (players start k : ℕ) → start ≤ players → k < players → P k ≡ true → (p : ℕ) × (first_cyclic P players start ≡ Some p)
unfolding first_cyclic
first_cyclic-some P players start k b kb passes =
    (elim (first_from P start (players - start)) as (λ o. first_from P start (players - start) ≡ o → (p : ℕ) × (elim o [ Some position ↦ Some position | None ↦ first_from P 0 start ] ≡ Some p)) [
      | Some q ↦ λ is. (q, refl)
      | None ↦ λ is.
          (elim (first_from P 0 start) as (λ o. first_from P 0 start ≡ o → (p : ℕ) × (o ≡ Some p)) [
            | Some q ↦ λ too. (q, refl)
            | None ↦ λ too. absurd (elim (cases_lt k start) [
              | inl low ↦ let no : P k ≡ false = first_from-none P 0 start too k (omega arith) (omega arith) in cc
              | inr high ↦ let no : P k ≡ false = first_from-none P start (players - start) is k high (omega arith) in cc
            ])
          ]) refl
    ]) refl

pub first_cyclic-same : (P Q : ℕ → Bool) (players start : ℕ) → start ≤ players → ((k : ℕ) → k < players → P k ≡ Q k) → first_cyclic P players start ≡ first_cyclic Q players start
unfolding first_cyclic
first_cyclic-same P Q players start b h =
    let one : first_from P start (players - start) ≡ first_from Q start (players - start) = first_from-same P Q start (players - start) (λ k x y. h k (omega arith)) in
    let two : first_from P 0 start ≡ first_from Q 0 start = first_from-same P Q 0 start (λ k x y. h k (omega arith)) in
    let pick : Option ℕ → Option ℕ → Option ℕ = λ o r. elim o [ Some position ↦ Some position | None ↦ r ] in
    ap (λ o. pick o (first_from P 0 start)) one ∙ ap (λ r. pick (first_from Q start (players - start)) r) two

pub found_here : (P : ℕ → Bool) (start position to : ℕ) → position < to → first_from P start (to - start) ≡ first_from P position (to - position) → P position ≡ true
    → Some position ≡ first_from P start (to - start)
found_here P start position to b e passes =
    let one_more : to - position ≡ suc (to - (position + 1)) = omega arith in
    sym (e ∙ (rw (one_more, first_from-suc P position (to - (position + 1)), passes) refl))

pub found_later : (P : ℕ → Bool) (start position to : ℕ) → position < to → first_from P start (to - start) ≡ first_from P position (to - position) → P position ≡ false
    → first_from P start (to - start) ≡ first_from P (position + 1) (to - (position + 1))
found_later P start position to b e fails =
    let one_more : to - position ≡ suc (to - (position + 1)) = omega arith in
    e ∙ (rw (one_more, first_from-suc P position (to - (position + 1)), fails) refl)

pub found_nowhere : (P : ℕ → Bool) (start position to : ℕ) → to ≤ position → first_from P start (to - start) ≡ first_from P position (to - position) → None ≡ first_from P start (to - start)
unfolding first_from
found_nowhere P start position to b e =
    let none_left : to - position ≡ 0 = omega arith in
    sym (e ∙ (rw none_left refl))

pub first_cyclic-above : (P : ℕ → Bool) (players start p : ℕ) → Some p ≡ first_from P start (players - start) → Some p ≡ first_cyclic P players start
unfolding first_cyclic
first_cyclic-above P players start p e =
    let pick : Option ℕ → Option ℕ = λ o. elim o [ Some position ↦ Some position | None ↦ first_from P 0 start ] in ap pick e

pub first_cyclic-around : (P : ℕ → Bool) (players start : ℕ) → None ≡ first_from P start (players - start) → first_from P 0 (start - 0) ≡ first_cyclic P players start
unfolding first_cyclic
first_cyclic-around P players start e =
    let pick : Option ℕ → Option ℕ = λ o. elim o [ Some position ↦ Some position | None ↦ first_from P 0 start ] in
    let all : start - 0 ≡ start = omega arith in
    rw all (ap pick e)
