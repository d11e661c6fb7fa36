use Rattle.std.proofs.Common.{refl}
use Rattle.node_service.specs.Desks.{IsKept}
use Rattle.node_service.specs.Turns.{AreCallersBut}
use Rattle.node_service.proofs.Going.{does_such, with_on}
use Rattle.node_service.proofs.Keeping.{goes_kept, as_it_was}
use Rattle.node_service.proofs.Turns.{no_callers, callers_on}
use Rattle.node_service.proofs.server.NodeServer.take_round.Goals as goal

pub loop-seat-init : goal.loop-seat-init
loop-seat-init g c =
    let desk = c.args.self.now.desk in
    let kept : IsKept g.W.Wire desk desk = as_it_was g.W.Wire refl in
    let taken = c.args.taken.now in
    does_such (AreCallersBut c.args.closed taken taken) (no_callers c.args.closed taken) (goes_kept g.W.Wire kept)

pub loop-seat-preserved : goal.loop-seat-preserved
loop-seat-preserved g c =
    let closed = c.args.closed in
    let first = c.args.taken.now in
    let before = c.loop-seat.taken in
    let after = c.take_caller_of-taker.new.taken in
    with_on (AreCallersBut closed first before) (AreCallersBut closed before after) (AreCallersBut closed first after) (callers_on closed first before after) c.loop-seat.invariant c.take_caller_of-taker.ensures
