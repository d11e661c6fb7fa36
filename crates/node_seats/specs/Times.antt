-- How long the bots of all seats may go without naming the protocol's version.
use Rattle.std.specs.Prelude.{◌≡◌, ℕ, ◌<◌, ◌≤◌, Bool, get_or, Option}
use Rattle.node_seats.specs.declared.seats.Seats.{Seats}
use Rattle.node_seats.specs.declared.seat_notice.SeatNotice.{SeatNotice}
use Rattle.node_seats.specs.Seating.{nobody}
use Rattle.node_seats.specs.Hurrying.{since_at, Hurries, LastsAt}

-- the same of all seats, of which one is asked, or a guest behind them
pub record HurriesAt (greeted : Bool) (now at : ℕ) (notice : Option SeatNotice) (old new : Seats) : Type 0 where
  pub here : at < old.count → Hurries greeted now at notice (get_or old.seats.items at nobody) (get_or new.seats.items at nobody)
  pub elsewhere : (seat : ℕ) → (seat ≡ at → old.count ≤ at) → LastsAt now notice old.seats.items new.seats.items seat
  pub count : new.count ≡ old.count

-- in other calls time stays as it is
pub record KeepsTime (old new : Seats) : Type 0 where
  pub since : (seat : ℕ) → since_at new.seats.items seat ≡ since_at old.seats.items seat
  pub count : new.count ≡ old.count
