-- What is kept of each seat.
use Rattle.std.specs.Prelude.{◌≡◌, ℕ, zero, suc, ◌<◌, ◌&&◌, Bool, true, false, get_or}
use Rattle.clockwork.specs.declared.seat_watch.At.{At}
use Rattle.clockwork.specs.declared.seat_watch.At.TheVariants.{Gone, Empty, Sits, Taken}
use Rattle.clockwork.specs.declared.seat_watch.SeatWatch.{SeatWatch}
use Rattle.clockwork.specs.SeatWatches.{seat_of, with_place}
use Rattle.node_service.specs.declared.limits.TheConstants.{SEATS}
use Rattle.node_service.specs.declared.seat_watches.SeatWatches.{SeatWatches}

abbrev pub watch_at : SeatWatches → ℕ → SeatWatch
watch_at watches seat = get_or watches.all seat seat_of

-- a bot took a seat here since the last look
abbrev pub was_taken : SeatWatches → ℕ → Bool
was_taken watches seat = get_or watches.taken seat false

-- how a seat is seen at its own node, by whether a bot took it since the last look, and whether one sits there
abbrev pub here_of : (taken sits : Bool) → At
here_of taken false = Empty
here_of false true = Sits
here_of true true = Taken

-- and at another one, by whether that is present, and whether it told that a bot sits there
abbrev pub there_of : (present sits : Bool) → At
there_of false sits = Gone
there_of true false = Empty
there_of true true = Sits

-- it is seen so at a node
abbrev pub seen_at_node : SeatWatch → ℕ → At → (moved now : ℕ) → SeatWatch
seen_at_node watch node at moved now = record watch { places = with_place watch.places node at moved now }

-- that is kept of this seat from now on, and of the others what was
pub record IsOfSeat (at : ℕ) (watch : SeatWatch) (old new : SeatWatches) : Type 0 where
  pub here : watch_at new at ≡ watch
  pub others : (seat : ℕ) → (at ≡ seat → ⊥) → watch_at new seat ≡ watch_at old seat
  pub taken : new.taken ≡ old.taken

-- a bot took this seat, if it is one
pub record IsTakenAt (at : ℕ) (old new : SeatWatches) : Type 0 where
  pub here : at < SEATS → was_taken new at ≡ true
  pub others : (seat : ℕ) → (at ≡ seat → ⊥) → was_taken new seat ≡ was_taken old seat
  pub all : new.all ≡ old.all

-- each seat of a lower number than this has come
abbrev pub have_come_below : SeatWatches → ℕ → Bool
have_come_below watches zero = true
have_come_below watches (suc seat) = have_come_below watches seat && (watch_at watches seat).has_come
