use Rattle.std.proofs.Common.{ap, ◌∙◌, sym, rules, not}
use Rattle.std.specs.Prelude.{bytes_eq}
use Rattle.card_core.proofs.Distinct.{IsDistinct-empty, IsDistinct-first, IsDistinct-first_repeated}
use Rattle.match_log.proofs.seat_names.+are_distinct.Goals as goal

pub returns-in-empty-clause-distinct : goal.returns-in-empty-clause-distinct
returns-in-empty-clause-distinct t c = let h = c.in-empty.len_below in (λ _. IsDistinct-empty bytes_eq _ h, λ _. search rules)

pub returns-then-not-has_name-clause-distinct : goal.returns-then-not-has_name-clause-distinct
returns-then-not-has_name-clause-distinct t c =
    let step = IsDistinct-first bytes_eq _ _ _ c.in-len1-up.len_at_least c.first-item.is c.as_bytes.ensures.value (sym c.has_name.ensures ∙ c.if-not-has_name.true) in
    let rest = c.are_distinct-later.ensures.distinct in
    (λ h. step.1 (rest.0 h), λ d. rest.1 (step.0 d))

pub returns-else-not-has_name-clause-distinct : goal.returns-else-not-has_name-clause-distinct
returns-else-not-has_name-clause-distinct t c =
    let found = c.if-not-has_name.false in
    let repeated = IsDistinct-first_repeated bytes_eq _ _ _ c.in-len1-up.len_at_least c.first-item.is c.as_bytes.ensures.value (sym c.has_name.ensures ∙ found) in
    (λ h. absurd (let no = ap not found in cc), λ d. absurd (repeated d))
