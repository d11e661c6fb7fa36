-- What connections in memory have yet to give.
use Rattle.std.specs.Prelude.{◌≡◌, ℕ, ◌==◌, ◌&&◌, not, Bool, true, false, List, [], take, drop, position, slice_get, slice_set, Option, Some, None, Result, Ok, Err}
use Rattle.match_links.specs.Pieces.{part_len, is_empty}
use Rattle.match_links.specs.declared.callers.Caller.{Caller}
use Rattle.match_links.specs.declared.callers.State.{State}
use Rattle.match_links.specs.declared.callers.State.TheVariants.{Waiting, Open, Closed}
use Rattle.match_links.specs.declared.links.LinkFault.{LinkFault}
use Rattle.match_links.specs.declared.links.LinkFault.TheVariants.{Failed}

abbrev pub is_open : State → Bool
is_open Waiting = false
is_open Open = true
is_open Closed = false

-- it is open, and of this seat at this node
abbrev pub is_open_for : ℕ → ℕ → Caller → Bool
is_open_for node seat caller = caller.node == node && caller.seat == seat && is_open caller.state

abbrev pub is_waiting : State → Bool
is_waiting Waiting = true
is_waiting Open = false
is_waiting Closed = false

-- it waits, is of this seat at this node, and sends something
abbrev pub can_be_opened : ℕ → ℕ → Caller → Bool
can_be_opened node seat caller = caller.node == node && caller.seat == seat && is_waiting caller.state && not (is_empty caller.bytes.items)

-- what is answered where the one at this place is to be opened, if it is one
abbrev pub opening : Option ℕ → Result (Unit {0}) LinkFault
opening None = Err Failed
opening (Some at) = Ok tt

-- a connection that waited is open, and nothing else of it is changed
pub record WasOpened (old new : Caller) : Type 0 where
  pub state : new.state ≡ Open
  pub node : new.node ≡ old.node
  pub seat : new.seat ≡ old.seat
  pub bytes : new.bytes ≡ old.bytes
  pub read : new.read ≡ old.read

-- the one at this place was opened, if it is one, and no other was changed
abbrev pub IsOpened : List Caller → List Caller → Option ℕ → Type 0
IsOpened old new None = new ≡ old
IsOpened old new (Some at) = (one : Caller) × (new ≡ slice_set old at one) × ((caller : Caller) → slice_get old at ≡ Some caller → WasOpened caller one)

abbrev pub unread : Option Caller → List ℕ
unread None = []
unread (Some caller) = drop caller.read caller.bytes.items

abbrev pub unread_at : List Caller → Option ℕ → List ℕ
unread_at callers None = []
unread_at callers (Some at) = unread (slice_get callers at)

-- what the seat's first open connection to the node has yet to give
abbrev pub to_read : ℕ → ℕ → List Caller → List ℕ
to_read node seat callers = unread_at callers (position (is_open_for node seat) callers)

-- so many bytes were read of what there is: its next piece, or as much of that as fits
pub record IsNextPiece (room count : ℕ) (piece bytes : List ℕ) : Type 0 where
  pub long : count ≡ part_len room bytes
  pub same : take count piece ≡ take count bytes
