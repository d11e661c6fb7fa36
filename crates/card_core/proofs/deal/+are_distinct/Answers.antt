use Rattle.std.proofs.Common.{ap, ◌∙◌, sym, rules, not, nat_eq}
use Rattle.card_core.proofs.deal.+are_distinct.Goals as goal
use Rattle.card_core.proofs.Distinct.{IsDistinct-empty, IsDistinct-first, IsDistinct-first_repeated}

pub returns-in-empty-clause-distinct : goal.returns-in-empty-clause-distinct
returns-in-empty-clause-distinct t c = let h = c.in-empty.len_below in (λ _. IsDistinct-empty nat_eq _ h, λ _. search rules)

pub returns-then-not-has_number-clause-distinct : goal.returns-then-not-has_number-clause-distinct
returns-then-not-has_number-clause-distinct t c =
    let step = IsDistinct-first nat_eq _ _ _ c.in-len1-up.len_at_least c.first-item.is c.number.ensures.value (sym c.has_number.ensures ∙ c.if-not-has_number.true) in
    let rest = c.are_distinct.ensures.distinct in
    (λ h. step.1 (rest.0 h), λ d. rest.1 (step.0 d))

pub returns-else-not-has_number-clause-distinct : goal.returns-else-not-has_number-clause-distinct
returns-else-not-has_number-clause-distinct t c =
    let found = c.if-not-has_number.false in
    let repeated = IsDistinct-first_repeated nat_eq _ _ _ c.in-len1-up.len_at_least c.first-item.is c.number.ensures.value (sym c.has_number.ensures ∙ found) in
    (λ h. absurd (let no = ap not found in cc), λ d. absurd (repeated d))
