-- What the fields of all seats' sessions keep.
use Rattle.std.specs.Prelude.{◌≡◌, ℕ, false, List, Option, Some, None, map, slice_index_or}
use Rattle.seat_session.specs.Session.{Conversation, is_closed}
use Rattle.dealer_node.specs.declared.seats.Seats.TheInside.{Inside}
use Rattle.dealer_node.specs.Turned.{talks}
use Rattle.dealer_node.specs.Seated.{Seated}

abbrev pub room_of : Option Conversation → ℕ
room_of None = 0
room_of (Some session) = session.room

abbrev pub seated_of : Inside → Seated
seated_of s = record { talks = talks s.sessions.items; rooms = map room_of s.sessions.items }

-- each session is its seat's, and open
pub record AreOwn (sessions : List (Option Conversation)) : Type 0 where
  pub own : (seat : ℕ) (session : Conversation) → slice_index_or sessions seat None ≡ Some session → session.seat ≡ seat
  pub stays : (seat : ℕ) (session : Conversation) → slice_index_or sessions seat None ≡ Some session → is_closed session.standing.phase ≡ false

pub record IsKept (s : Inside) : Type 0 where
  pub kept : AreOwn s.sessions.items
