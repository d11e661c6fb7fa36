use Rattle.std.proofs.Common.{◌≡◌, ap, arith, length, length-append, drop}
use Rattle.matchstate.proofs.CardTexts.{length_cards_text}
use Rattle.matchstate.specs.Cards.{cards_text}
use Rattle.matchstate.proofs.cards_field.read_hole.Goals as goal

pub returns-in_ok-cards-clause-within : goal.returns-in_ok-cards-clause-within
returns-in_ok-cards-clause-within c =
    let found = c.in_ok-cards.ensures.found in
    let whole = ap length found.0 in
    let count : length c.in_ok-cards.cards ≡ 2 = found.2 in
    let seen = c.if-seen.true in
    let text = length_cards_text c.in_ok-cards.cards in
    let bytes = length-append (cards_text c.in_ok-cards.cards) (drop 4 c.args.bytes.now) in
    rw seen (omega arith)
