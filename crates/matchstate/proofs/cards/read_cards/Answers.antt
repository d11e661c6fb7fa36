use Rattle.std.proofs.Common.{◌≡◌, ◌+◌, ◌<◌, ◌++◌, length, get_or, drop, ◌∙◌, arith, length-set}
use Rattle.matchstate.specs.Cards.{cards_text}
use Rattle.matchstate.proofs.CardTexts.{card_next, All-at, place_next, text_next_card, pack_next, same_next}
use Rattle.matchstate.proofs.cards.read_cards.Goals as goal

pub returns-in_err-card-clause-only : goal.returns-in_err-card-clause-only
returns-in_err-card-clause-only g c =
    λ cards behind count all is.
    let i = c.loop-place.place in
    let inv = c.loop-place.invariant in
    let stands = inv.5 cards behind count all is in
    let test : i < g.row.N = c.loop-place-test.true in
    let below : i < length cards = omega arith in
    let got = c.read_card.ensures.only (get_or cards i 0) (cards_text (drop (i + 1) cards) ++ behind) (All-at (λ card. card < 52) cards i below all) (card_next cards behind c.loop-place.rest.now i below stands.0) in
    let was = c.in_err-card.was in
    cc

pub loop-place-preserved : goal.loop-place-preserved
loop-place-preserved g c =
    let i = c.loop-place.place in
    let kept = c.loop-place.cards in
    let card = c.in_ok-card.card in
    let bytes = c.args.bytes.now in
    let rest = c.loop-place.rest.now in
    let next = c.split_at.result.1.now in
    let inv = c.loop-place.invariant in
    let found = c.in_ok-card.ensures.found in
    let test : i < g.row.N = c.loop-place-test.true in
    let count : length kept ≡ g.row.N = inv.0 in
    let below : i < length kept = omega arith in
    let moved = c.split_at.ensures.back in (
      length-set kept i card ∙ count,
      omega arith,
      place_next bytes rest next kept i card below found.0 moved inv.2,
      text_next_card bytes rest next kept i card below found.0 moved inv.3,
      pack_next bytes rest next kept i card below found.0 moved inv.4 found.1,
      λ cards behind length_is all is.
          let stands = inv.5 cards behind length_is all is in
          let within : i < length cards = omega arith in
          let got = c.in_ok-card.ensures.only (get_or cards i 0) (cards_text (drop (i + 1) cards) ++ behind) (All-at (λ x. x < 52) cards i within all) (card_next cards behind rest i within stands.0) in
          let same : card ≡ get_or cards i 0 = cc in
          same_next bytes rest next kept i card below found.0 moved cards behind within stands.0 stands.1 same,
    )
