use Rattle.std.proofs.Common.{refl}
use Rattle.node_service.specs.Desks.{IsKept}
use Rattle.node_service.specs.Turns.{AreCallersBut}
use Rattle.node_service.proofs.Going.{does_such, with_does, with_on}
use Rattle.node_service.proofs.Keeping.{goes_kept, as_it_was}
use Rattle.node_service.proofs.Turns.{no_callers, callers_on}
use Rattle.node_service.proofs.server.NodeServer.take_rounds.Goals as goal

pub loop-init : goal.loop-init
loop-init g c =
    let desk = c.args.self.now.desk in
    let kept : IsKept g.W.Wire desk desk = as_it_was g.W.Wire refl in
    let taken = c.args.taken.now in
    does_such (AreCallersBut c.args.closed taken taken) (no_callers c.args.closed taken) (goes_kept g.W.Wire kept)

pub loop-preserved : goal.loop-preserved
loop-preserved g c =
    let closed = c.args.closed in
    let first = c.args.taken.now in
    let before = c.loop.taken in
    let after = c.take_round.new.taken in
    with_does (AreCallersBut closed first after) (with_on (AreCallersBut closed first before) (AreCallersBut closed before after) (AreCallersBut closed first after) (callers_on closed first before after) c.loop.invariant c.take_round.ensures)
    (goes_kept g.W.Wire c.now-now.ensures.kept)

pub returns-in-Nobody : goal.returns-in-Nobody
returns-in-Nobody g c =
    let closed = c.args.closed in
    let first = c.args.taken.now in
    let before = c.loop.taken in
    let after = c.take_round.new.taken in
    with_on (AreCallersBut closed first before) (AreCallersBut closed before after) (AreCallersBut closed first after) (callers_on closed first before after) c.loop.invariant c.take_round.ensures

pub returns-then-saturating_sub-ge-CALLERS : goal.returns-then-saturating_sub-ge-CALLERS
returns-then-saturating_sub-ge-CALLERS g c =
    let closed = c.args.closed in
    let first = c.args.taken.now in
    let before = c.loop.taken in
    let after = c.take_round.new.taken in
    with_does (AreCallersBut closed first after) (with_on (AreCallersBut closed first before) (AreCallersBut closed before after) (AreCallersBut closed first after) (callers_on closed first before after) c.loop.invariant c.take_round.ensures)
    (goes_kept g.W.Wire c.now-now.ensures.kept)
