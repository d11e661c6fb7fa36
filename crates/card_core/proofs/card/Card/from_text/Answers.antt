use Rattle.std.proofs.Common.{◌/◌, arith, refl, ap, Some, ℕ, ◌∙◌}
use Rattle.card_core.proofs.card.Card.from_text.Goals as goal
use Rattle.card_core.proofs.Letters.{text_of-rank, text_of-places}

pub returns-in_err-rank-clause-only : goal.returns-in_err-rank-clause-only
returns-in_err-rank-clause-only c card below same =
    absurd (c.in_err-rank.ensures.missing refl (card / 4) (omega arith) (text_of-rank _ card same))

pub returns-clause-only : goal.returns-clause-only
returns-clause-only c card below same =
    let rank = c.in_ok-rank.ensures.found in
    let suit = c.in_ok-suit.ensures.found in
    let place = text_of-places _ card _ _ below rank.0 suit.0 same rank.1 suit.1 in
    let number = c.from_number.ensures in
    ap (λ (n : ℕ). Some n) (number ∙ place)
