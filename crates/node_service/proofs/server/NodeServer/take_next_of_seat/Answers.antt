use Rattle.std.proofs.Common.{refl}
use Rattle.std.specs.Prelude.{Some}
use Rattle.node_service.specs.Turns.{IsNextBut}
use Rattle.node_service.specs.Desks.{IsKept}
use Rattle.node_service.proofs.Going.{does_on, does_such, taken_with, nothing_taken}
use Rattle.node_service.proofs.Keeping.{goes_kept, as_it_was}
use Rattle.node_service.proofs.Turns.{next_none, first_of, spares_of}
use Rattle.node_service.proofs.server.NodeServer.take_next_of_seat.Goals as goal

pub returns-then-has_bit : goal.returns-then-has_bit
returns-then-has_bit g c =
    let desk = c.args.self.now.desk in
    let kept : IsKept g.W.Wire desk desk = as_it_was g.W.Wire refl in
    let taken = c.args.taken.now in
    does_such (IsNextBut c.args.at c.args.closed taken taken) (next_none c.args.at c.args.closed taken) (goes_kept g.W.Wire kept)

pub returns-in-Some : goal.returns-in-Some
returns-in-Some g c =
    let at = c.args.at in
    let closed = c.args.closed in
    let taken = c.args.taken.now in
    let notice = c.in-Some.notice in
    let first = first_of closed taken at notice c.if-has_bit.ensures c.in-Some.ensures.closed c.in-Some.ensures.piece in
    taken_with (IsNextBut at closed taken c.with_thing.result) c.in-Some.ensures.takes (does_on c.take_seat_notice.ensures.goes c.leave_all.ensures)
    (record { next = (Some notice, (refl, c.in-Some.ensures.piece)); counts = c.with_thing.ensures first; spares = spares_of closed taken notice c.in-Some.ensures.closed })

pub returns-in-None : goal.returns-in-None
returns-in-None g c =
    let taken = c.args.taken.now in
    nothing_taken (IsNextBut c.args.at c.args.closed taken taken) (next_none c.args.at c.args.closed taken) c.in-None.ensures.takes
