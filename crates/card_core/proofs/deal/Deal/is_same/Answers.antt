use Rattle.std.proofs.Common.{sym, ◌∙◌, arith}
use Rattle.std.proofs.lemmas.Bool.Decides.{nat_tests}
use lib.Pointwise.{pointwise_decides}
use Rattle.card_core.proofs.deal.Deal.is_same.Goals as goal

pub returns : goal.returns
returns c =
    let first = c.cards.ensures.value in
    let second = c.cards-2.ensures.value in
    let told = pointwise_decides (λ x y. grind (arith, nat_tests)) c.cards.result.now c.cards-2.result.now in
    (λ passed. sym first ∙ told.0 (sym c.eq.ensures ∙ passed) ∙ second, λ same. c.eq.ensures ∙ told.1 (first ∙ same ∙ sym second))
