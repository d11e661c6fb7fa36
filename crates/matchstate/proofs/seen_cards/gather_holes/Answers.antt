use Rattle.std.proofs.Common.{◌≡◌, ◌<◌, ◌++◌, get_or, length, ap, sym, ◌∙◌, arith}
use Rattle.matchstate.specs.SeenCards.{hole_in}
use Rattle.matchstate.proofs.Dealt.{gather_more}
use Rattle.matchstate.proofs.seen_cards.gather_holes.Goals as goal

pub loop-position-preserved : goal.loop-position-preserved
loop-position-preserved c =
    let inv = c.loop-position.invariant in
    let holes = c.args.holes.now in
    let p = c.loop-position.position in
    let d = c.index-holes-position.result in
    let ten : length holes ≡ 10 = c.type_inv.holes in
    let few = c.requires.players in
    let test : p < c.args.players = c.loop-position-test.true in
    let below : p < length holes = omega arith in
    let more = gather_more holes p d below in
    let count = c.add-count.ensures.count in
    let before = inv.1 in
    let whole = c.add-count.ensures.cards ∙ ap (λ front. front ++ hole_in (get_or holes p d)) inv.3 ∙ sym more in
    (c.add-count.auto.cards ∙ inv.0, omega arith, omega arith, whole)
