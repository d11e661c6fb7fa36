-- How long a bot that was taken in may go without naming the protocol's version.
use Rattle.std.specs.Prelude.{◌≡◌, ◌⊎◌, ℕ, ◌+◌, ◌<◌, ◌≤◌, Bool, true, false, List, get_or, Option, Some, None}
use Rattle.node_seats.specs.declared.limits.TheConstants.{VERSION_TIME}
use Rattle.node_seats.specs.declared.seat.Seat.{Seat}
use Rattle.node_seats.specs.declared.seat_notice.SeatNotice.{SeatNotice}
use Rattle.node_seats.specs.declared.seat_notice.SeatNotice.TheVariants as notices
use Rattle.node_seats.specs.Seating.{nobody}

-- when the bot of a seat was taken in, until its time is seen to be over
abbrev pub since_at : List Seat → ℕ → Option ℕ
since_at seats number = (get_or seats number nobody).since

-- a bot that named the version needs no time; another one has it for so long
abbrev pub HasTime : Bool → ℕ → Option ℕ → Type 0
HasTime greeted now None = greeted ≡ true
HasTime greeted now (Some came) = (greeted ≡ true) ⊎ (now < came + VERSION_TIME)

-- time that a bot has stays as it is, and one that was taken in has it from now on
abbrev pub Lasts : Bool → ℕ → Option SeatNotice → Option ℕ → Option ℕ → Type 0
Lasts greeted now None old new = HasTime greeted now old → new ≡ old
Lasts greeted now (Some (notices.Piece number bytes)) old new = HasTime greeted now old → new ≡ old
Lasts greeted now (Some (notices.Gone number)) old new = HasTime greeted now old → new ≡ old
Lasts greeted now (Some (notices.Refused number source)) old new = HasTime greeted now old → new ≡ old
Lasts greeted now (Some (notices.Unread number)) old new = HasTime greeted now old → new ≡ old
Lasts greeted now (Some (notices.Came number)) old new = new ≡ Some now

-- a bot whose time was over before is gone; where it is over now, that is kept, and the next call lets go of it
pub record Hurries (greeted : Bool) (now number : ℕ) (notice : Option SeatNotice) (old new : Seat) : Type 0 where
  pub over : old.bot.sits ≡ true → greeted ≡ false → old.since ≡ None → notice ≡ Some (notices.Gone number)
  pub ends : (came : ℕ) → old.bot.sits ≡ true → greeted ≡ false → old.since ≡ Some came → came + VERSION_TIME ≤ now → new.since ≡ None
  pub lasts : Lasts greeted now notice old.since new.since

-- at a seat that isn't asked time stays as it is, but a guest who was taken in there has it from now on
abbrev pub LastsAt : ℕ → Option SeatNotice → List Seat → List Seat → ℕ → Type 0
LastsAt now None old new seat = since_at new seat ≡ since_at old seat
LastsAt now (Some (notices.Piece number bytes)) old new seat = since_at new seat ≡ since_at old seat
LastsAt now (Some (notices.Gone number)) old new seat = since_at new seat ≡ since_at old seat
LastsAt now (Some (notices.Refused number source)) old new seat = since_at new seat ≡ since_at old seat
LastsAt now (Some (notices.Unread number)) old new seat = since_at new seat ≡ since_at old seat
LastsAt now (Some (notices.Came number)) old new seat = (seat ≡ number → since_at new seat ≡ Some now) × ((seat ≡ number → ⊥) → since_at new seat ≡ since_at old seat)
