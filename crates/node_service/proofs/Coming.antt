-- Seats that have come, one after another.
use Rattle.std.proofs.Common.{◌≡◌, ℕ, ◌+◌, refl, add-one}
use Rattle.std.specs.Prelude.{◌&&◌}
use Rattle.node_service.specs.Watching.{watch_at, have_come_below}
use Rattle.node_service.specs.declared.seat_watches.SeatWatches.{SeatWatches}

pub one_came : (watches : SeatWatches) (seat : ℕ) → have_come_below watches (seat + 1) ≡ (have_come_below watches seat && (watch_at watches seat).has_come)
one_came watches seat = rw add-one refl
