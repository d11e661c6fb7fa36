use Rattle.std.proofs.Common.{◌<◌, length, arith, rules}
use Rattle.matchstate.proofs.BoardPlaces.{board_next}
use Rattle.matchstate.proofs.view.View.board.Goals as goal

pub loop-place-preserved : goal.loop-place-preserved
loop-place-preserved c =
    let inv = c.loop-place.invariant in
    let place = c.loop-place.place in
    let few = c.gather_board-cards.ensures.count in
    let test = c.loop-place-test.true in
    let within : place < length c.gather_board-cards.result.0 = search rules in
    let next = board_next c.loop-place.board c.gather_board-cards.result.0 place c.index-cards-place.result (omega arith) inv.1 within inv.2 inv.3 in
    (omega arith, search rules, next.0, next.1)

pub loop-place-init : goal.loop-place-init
loop-place-init c = search rules
