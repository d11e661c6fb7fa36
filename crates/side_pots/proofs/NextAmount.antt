-- The least amount above another, as one player after another is looked at.
use Rattle.std.proofs.Common.{inl, inr, ◌≡◌, ℕ, ◌+◌, ◌<◌, ◌≤◌, Bool, true, false, Option, Some, None, MatchOption, List, length, get_or, sym, ◌∙◌, ap, arith}
use Rattle.std.proofs.lemmas.Bool.{cases_eq, cases_lt}
use Rattle.side_pots.specs.Amounts.{IsAmount, IsNextAmount, IsLastAmount, lesser}
use Rattle.side_pots.proofs.Levels.{owner_within}

-- the least of the first players' amounts above another
pub record IsNextAmong (spent : List ℕ) (folded : List Bool) (below players amount : ℕ) : Type 0 where
  pub above : below < amount
  pub amount_of_one : IsAmount spent folded amount
  pub least : (q : ℕ) → q < players → get_or folded q true ≡ false → below < get_or spent q 0 → amount ≤ get_or spent q 0

-- none of the first players put in more
abbrev pub IsLastAmong : List ℕ → List Bool → ℕ → ℕ → Type 0
IsLastAmong spent folded below players = (q : ℕ) → q < players → get_or folded q true ≡ false → get_or spent q 0 ≤ below

abbrev pub IsFoundAmong : List ℕ → List Bool → ℕ → ℕ → Option ℕ → Type 0
IsFoundAmong spent folded below players next = MatchOption next (IsLastAmong spent folded below players) (λ amount. IsNextAmong spent folded below players amount)

pub found_passed : (spent : List ℕ) (folded : List Bool) (below i : ℕ) (next : Option ℕ) → (get_or folded i true ≡ false → get_or spent i 0 ≤ below) → IsFoundAmong spent folded below i next → IsFoundAmong spent folded below (i + 1) next
found_passed spent folded below i None low found =
    λ q within unfolded. elim (cases_eq q i) [
      | inl same ↦ let here : get_or spent i 0 ≤ below = low (ap (λ (p : ℕ). get_or folded p true) (sym same) ∙ unfolded) in omega (arith, ap (λ (p : ℕ). get_or spent p 0) same)
      | inr differ ↦ found q (omega arith) unfolded
    ]
found_passed spent folded below i (Some amount) low found = record {
  above = found.above;
  amount_of_one = found.amount_of_one;
  least = λ q within unfolded over. elim (cases_eq q i) [
    | inl same ↦ let here : get_or spent i 0 ≤ below = low (ap (λ (p : ℕ). get_or folded p true) (sym same) ∙ unfolded) in absurd (omega (arith, ap (λ (p : ℕ). get_or spent p 0) same))
    | inr differ ↦ found.least q (omega arith) unfolded over
  ];
}

pub found_taken : (spent : List ℕ) (folded : List Bool) (below i amount least : ℕ) (next : Option ℕ) → get_or folded i true ≡ false → amount ≡ get_or spent i 0 → below < amount → least ≡ lesser next amount → IsFoundAmong spent folded below i next → IsNextAmong spent folded below (i + 1) least
found_taken spent folded below i amount least None unfolded read over e found = record {
  above = omega arith;
  amount_of_one = record { owner = i; unfolded = unfolded; exactly = sym read ∙ sym e };
  least = λ q within free high. elim (cases_eq q i) [
    | inl same ↦ omega (arith, ap (λ (p : ℕ). get_or spent p 0) same)
    | inr differ ↦ let low : get_or spent q 0 ≤ below = found q (omega arith) free in absurd (omega arith)
  ];
}
found_taken spent folded below i amount least (Some before) unfolded read over e found =
    let above : below < before = found.above in
    elim (cases_lt before amount) [
      | inl less ↦
          let same_amount : before ≡ least = omega arith in
          record {
            above = omega arith;
            amount_of_one = record { owner = found.amount_of_one.owner; unfolded = found.amount_of_one.unfolded; exactly = found.amount_of_one.exactly ∙ same_amount };
            least = λ q within free high. elim (cases_eq q i) [
              | inl same ↦ omega (arith, ap (λ (p : ℕ). get_or spent p 0) same)
              | inr differ ↦ let low : before ≤ get_or spent q 0 = found.least q (omega arith) free high in omega arith
            ];
          }
      | inr more ↦
          let same_amount : amount ≡ least = omega arith in
          record {
            above = omega arith;
            amount_of_one = record { owner = i; unfolded = unfolded; exactly = sym read ∙ same_amount };
            least = λ q within free high. elim (cases_eq q i) [
              | inl same ↦ omega (arith, ap (λ (p : ℕ). get_or spent p 0) same)
              | inr differ ↦ let low : before ≤ get_or spent q 0 = found.least q (omega arith) free high in omega arith
            ];
          }
    ]

pub found_all : (spent : List ℕ) (folded : List Bool) (below i : ℕ) (next : Option ℕ) → length folded ≡ length spent → length spent ≤ i → IsFoundAmong spent folded below i next → MatchOption next (IsLastAmount spent folded below) (λ amount. IsNextAmount spent folded below amount)
found_all spent folded below i None one_length past found = λ q unfolded. found q (omega (arith, owner_within folded q unfolded)) unfolded
found_all spent folded below i (Some amount) one_length past found = record {
  above = found.above;
  amount_of_one = found.amount_of_one;
  least = λ q unfolded over. found.least q (omega (arith, owner_within folded q unfolded)) unfolded over;
}
