-- Which place one who comes by himself is given, and who makes room for him.
use Rattle.std.specs.Prelude.{◌≡◌, ℕ, zero, suc, ◌+◌, ◌-◌, ◌/◌, ◌<◌, ◌≤◌, ◌==◌, nat_lt, nat_le, Bool, true, false, not, ◌&&◌, ◌||◌, if◌then◌else◌, List, slice_get, slice_set, Option, Some, None, is_some}
use Rattle.std.specs.declared.net.ip_addr.IpAddr.{IpAddr}
use Rattle.node_wires.specs.declared.limits.TheConstants.{NODES, DIALLED, OTHERS, KEPT, CALLERS, SEATS, ORDINARY, DOORS, GUESTS, ASKERS, STRANGERS, STANDS, LAST}
use Rattle.node_wires.specs.declared.comer.Comer.{Comer}
use Rattle.node_wires.specs.declared.comer.Comer.TheVariants.{Caller, Guest, Asker}
use Rattle.node_wires.specs.declared.coming.Stander.{Stander}
use Rattle.node_wires.specs.declared.coming.Coming.{Coming}
use Rattle.node_wires.specs.declared.coming.Best.{Best}
use Rattle.node_wires.specs.declared.wired.Wired.{Wired}
use Rattle.node_wires.specs.declared.nodes.Nodes.{Nodes}
use Rattle.node_wires.specs.Nodes.{is_same, dials_from, is_home}

-- how many places there are
abbrev pub places_of : Comer → ℕ
places_of Caller = CALLERS
places_of (Guest seat) = GUESTS
places_of Asker = ASKERS

-- where the first of them is among those of all lines
abbrev pub first_of : Comer → ℕ
first_of Caller = DIALLED
first_of (Guest seat) = DIALLED + CALLERS + SEATS
first_of Asker = DIALLED + CALLERS + SEATS + GUESTS

-- ---- who stands there

abbrev pub who_of : Option (Option Wired) → Option Stander
who_of (Some (Some wired)) = Some wired.who
who_of (Some None) = None
who_of None = None

-- who stands at a place
abbrev pub standing_at : List (Option Wired) → Comer → ℕ → Option Stander
standing_at lines comer place = who_of (slice_get lines (first_of comer + place))

-- it isn't known who he is, and he came from this address
abbrev pub is_stranger_of : IpAddr → Stander → Bool
is_stranger_of address who = is_some who.turn && is_same who.address address

abbrev pub is_stranger_at : List (Option Wired) → Comer → IpAddr → ℕ → Bool
is_stranger_at lines comer address place = elim (standing_at lines comer place) [ Some who ↦ is_stranger_of address who | None ↦ false ]

-- how many such stand at the places below this one
abbrev pub strangers_below : List (Option Wired) → Comer → IpAddr → ℕ → ℕ
strangers_below lines comer address zero = 0
strangers_below lines comer address (suc place) =
    (if is_stranger_at lines comer address place then strangers_below lines comer address place + 1 else strangers_below lines comer address place)

-- ---- which places one who comes may have

-- a node dials from where he comes, so places are kept for him
abbrev pub is_kept_for : Comer → Nodes → IpAddr → Bool
is_kept_for Caller nodes address = is_home nodes address
is_kept_for (Guest seat) nodes address = false
is_kept_for Asker nodes address = false

-- a guest of a seat may have the places of guests of any seat, and those behind them that are of his seat alone
abbrev pub is_open_to_guest : ℕ → ℕ → Bool
is_open_to_guest seat place = (if nat_lt place ORDINARY then true else (place - ORDINARY) / DOORS == seat)

abbrev pub is_door : Comer → ℕ → Bool
is_door Caller place = false
is_door (Guest seat) place = nat_le ORDINARY place
is_door Asker place = false

-- a caller's place that is kept for a node is for who comes from where that node dials; the places of others are for those
-- who come from where no node does
abbrev pub is_open_to : Comer → Nodes → IpAddr → ℕ → Bool
is_open_to Caller nodes address place =
    (if nat_lt place OTHERS then not (is_home nodes address) else dials_from nodes ((place - OTHERS) / KEPT) address)
is_open_to (Guest seat) nodes address place = is_open_to_guest seat place
is_open_to Asker nodes address place = true

-- too many strangers of one address stand there, and no place is kept for it
abbrev pub is_crowded : List (Option Wired) → Comer → Nodes → IpAddr → Bool
is_crowded lines comer nodes address = not (is_kept_for comer nodes address) && nat_le STRANGERS (strangers_below lines comer address (places_of comer))

-- ---- who makes room

-- for how long at least one stands at a place before he does
abbrev pub stay_of : Comer → ℕ → ℕ
stay_of Caller place = (if nat_lt place OTHERS then STANDS else 0)
stay_of (Guest seat) place = STANDS
stay_of Asker place = 0

-- he has stood for so long, and where too many of one address stand he came from there
abbrev pub may_go : Coming → ℕ → Stander → Bool
may_go coming stay who = nat_le stay (coming.now - who.since) && (not coming.is_crowded || is_same who.address coming.address)

-- a free place is taken first, and none that is free where it is crowded; but one of a seat alone last of all
abbrev pub free_rank : Coming → ℕ → Option ℕ
free_rank coming place = (if is_door coming.comer place then Some LAST else if coming.is_crowded then None else Some 0)

-- behind the free ones that of the stranger who came first
abbrev pub rank_of : Coming → ℕ → Option Stander → Option ℕ
rank_of coming place None = free_rank coming place
rank_of coming place (Some who) = (if may_go coming (stay_of coming.comer place) who then who.turn else None)

-- one comes from an address at a moment
abbrev pub coming_by : List (Option Wired) → Comer → Nodes → IpAddr → ℕ → Coming
coming_by lines comer nodes address now =
    record { comer = comer; address = address; now = now; is_crowded = is_crowded lines comer nodes address }

-- how soon he takes a place; none of one that he doesn't take
abbrev pub rank : Nodes → List (Option Wired) → Coming → ℕ → Option ℕ
rank nodes lines coming place =
    (if is_open_to coming.comer nodes coming.address place then rank_of coming place (standing_at lines coming.comer place) else None)

-- ---- the place that is taken

-- of the places below this count it is one that is taken the soonest
pub record IsLeast (rank : ℕ → Option ℕ) (count place least : ℕ) : Type 0 where
  pub within : place < count
  pub ranked : rank place ≡ Some least
  pub no_sooner : (other its : ℕ) → other < count → rank other ≡ Some its → least ≤ its

-- it is such a place, or none of them is taken
abbrev pub IsBest : (ℕ → Option ℕ) → ℕ → Option Best → Type 0
IsBest rank count (Some best) = IsLeast rank count best.place best.rank
IsBest rank count None = (other : ℕ) → other < count → rank other ≡ None

abbrev pub better : Option Best → ℕ → Option ℕ → Option Best
better best place None = best
better None place (Some rank) = Some (record { place = place; rank = rank })
better (Some before) place (Some rank) = (if nat_lt rank before.rank then Some (record { place = place; rank = rank }) else Some before)

-- this place is for one who comes from this address at this moment: it is open to him, and none is to be taken sooner
pub record IsFor (nodes : Nodes) (lines : List (Option Wired)) (comer : Comer) (address : IpAddr) (now place : ℕ) : Type 0 where
  pub turn : ℕ
  pub first : IsLeast (rank nodes lines (coming_by lines comer nodes address now)) (places_of comer) place turn
  pub open_to : is_open_to comer nodes address place ≡ true

-- no place is for him
abbrev pub IsForNobody : Nodes → List (Option Wired) → Comer → IpAddr → ℕ → Type 0
IsForNobody nodes lines comer address now =
    (place : ℕ) → place < places_of comer → rank nodes lines (coming_by lines comer nodes address now) place ≡ None

-- one who came stands at this place from now on, which was for him at the moment at which he came. All other connections are
-- as they were
pub record IsTakenIn (comer : Comer) (nodes : Nodes) (before after : List (Option Wired)) (place : ℕ) : Type 0 where
  pub wired : Wired
  pub place_for : IsFor nodes before comer wired.who.address wired.who.since place
  pub lines : after ≡ slice_set before (first_of comer + place) (Some wired)
