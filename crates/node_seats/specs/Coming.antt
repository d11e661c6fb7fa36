-- What came next of a node's seats.
use Rattle.std.specs.Prelude.{◌≡◌, List, [], Option, Some, None}
use Rattle.node_wires.specs.Passages.{Passage}
use Rattle.node_seats.specs.declared.seat_notice.SeatNotice.{SeatNotice}
use Rattle.node_seats.specs.declared.guests.Guests.{Guests}
use Rattle.node_seats.specs.declared.seats.Seats.{Seats}
use Rattle.node_seats.specs.declared.token_digest.TokenDigest.{TokenDigest}
use Rattle.node_seats.specs.Guesting.{Passes}
use Rattle.node_seats.specs.Keeping.{KeepsFit, IsOneASeat}
use Rattle.node_seats.specs.Seating.{Follows, Changes}

-- what passed over the lines of guests, in order
abbrev pub passed_in : Option Guests → List Passage
passed_in None = []
passed_in (Some guests) = guests.passed.items

-- the seats' tokens, where there are some
abbrev pub tokens_in : Option Guests → Option (List TokenDigest)
tokens_in None = None
tokens_in (Some guests) = Some guests.tokens.items

-- the seats' tokens, where they have some
abbrev pub tokens_of : Seats → Option (List TokenDigest)
tokens_of seats = tokens_in seats.guests

-- what passed over the lines of guests, in order
abbrev pub passed_of : Seats → List Passage
passed_of seats = passed_in seats.guests

-- what passed in a call and who was let in, what waits for the bots, and where they sit
pub record Comes (notice : Option SeatNotice) (old new : Seats) (wired_old wired_new : List Passage) : Type 0 where
  pub passes : Passes (tokens_of old) notice (passed_of old) (passed_of new) wired_old wired_new
  pub tokens : tokens_of new ≡ tokens_of old
  pub waits : Follows notice old.seats.items new.seats.items
  pub sits : Changes notice old.seats.items new.seats.items

-- without tokens nobody stands anywhere
abbrev pub AreFit : Option Guests → Option Guests → Type 0
AreFit None new = new ≡ None
AreFit (Some old) None = ⊥
AreFit (Some old) (Some new) = KeepsFit old.tokens.items old.guests.items new.guests.items

-- for each seat one guest waits at most
abbrev pub AreOneASeat : Option Guests → Type 0
AreOneASeat None = Unit {0}
AreOneASeat (Some guests) = IsOneASeat guests.guests.items
