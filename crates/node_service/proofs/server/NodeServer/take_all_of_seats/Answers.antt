use Rattle.std.proofs.Common.{◌+◌, bit_or}
use Rattle.node_service.specs.Turns.{AreCallersBut, ComeOfSeatsBut, IsNextBut}
use Rattle.node_service.proofs.Going.{with_on, with_so, does_with}
use Rattle.node_service.proofs.Keeping.{goes_kept}
use Rattle.node_service.proofs.Turns.{ComeBelow, callers_first, come_on, come_is_all_but}
use Rattle.node_service.proofs.server.NodeServer.take_all_of_seats.Goals as goal

pub loop-at-init : goal.loop-at-init
loop-at-init g c =
    let shut = bit_or c.args.closed c.shut.result in
    let taken = c.take_callers-is_all.new.taken in
    with_so (AreCallersBut shut 0 taken) (ComeBelow 0 shut taken) (callers_first shut taken) (does_with (AreCallersBut shut 0 taken) (goes_kept g.W.Wire c.now-now.ensures.kept) c.take_callers-is_all.ensures)

pub loop-at-preserved : goal.loop-at-preserved
loop-at-preserved g c =
    let closed = bit_or c.args.closed c.shut.result in
    let before = c.loop-at.taken in
    let after = c.take_next_of_seat-is_all.new.taken in
    with_on (ComeBelow c.loop-at.at closed before) (IsNextBut c.loop-at.at closed before after) (ComeBelow (c.loop-at.at + 1) closed after) (come_on c.loop-at.at closed before after) c.loop-at.invariant
    c.take_next_of_seat-is_all.ensures

pub returns-then-ne : goal.returns-then-ne
returns-then-ne g c =
    with_so (ComeBelow c.loop-at.at (bit_or c.args.closed c.shut.result) c.loop-at.taken) (ComeOfSeatsBut c.args.closed) (come_is_all_but c.loop-at.at c.args.closed c.shut.result c.loop-at.taken) c.loop-at.invariant

pub returns : goal.returns
returns g c =
    with_so (ComeBelow c.loop-at.at (bit_or c.args.closed c.shut.result) c.loop-at.taken) (ComeOfSeatsBut c.args.closed) (come_is_all_but c.loop-at.at c.args.closed c.shut.result c.loop-at.taken) c.loop-at.invariant
