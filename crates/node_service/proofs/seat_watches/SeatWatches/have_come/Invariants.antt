use Rattle.std.specs.Prelude.{◌≡◌}
use Rattle.node_service.specs.Watching.{have_come_below}
use Rattle.node_service.proofs.seat_watches.SeatWatches.have_come.Given as goal

abbrev pub invariant-loop-seat : goal.invariant-loop-seat
invariant-loop-seat l = l.all ≡ have_come_below l.self l.seat
