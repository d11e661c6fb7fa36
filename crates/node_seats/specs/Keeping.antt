-- Who keeps a place among guests.
use Rattle.std.specs.Prelude.{◌≡◌, ◌≢◌, ◌⊎◌, ◌<◌, ◌&&◌, ◌==◌, not, ℕ, Bool, true, false, List, get_or, Option, Some, None}
use Rattle.node_wires.specs.declared.limits.TheConstants.{GUESTS}
use Rattle.node_seats.specs.declared.guest.Guest.{Guest}
use Rattle.node_seats.specs.declared.guest.Found.{Found}
use Rattle.node_seats.specs.declared.guest.Found.TheVariants as founds
use Rattle.node_seats.specs.declared.token_digest.TokenDigest.{TokenDigest}
use Rattle.node_seats.specs.Tokens.{is_open}
use Rattle.node_seats.specs.Guesting.{ShowsToken}

-- ---- who stands there

-- he said nothing wrong so far, or showed the token of his seat
abbrev pub IsFit : List TokenDigest → Option Guest → Type 0
IsFit tokens None = Unit {0}
IsFit tokens (Some guest) = (is_open guest.line.items ≡ true) ⊎ ShowsToken tokens guest.seat guest.line.items

-- he waits until he is seated: his line is whole
abbrev pub waits_for : ℕ → Option Guest → Bool
waits_for seat None = false
waits_for seat (Some guest) = (guest.seat == seat) && not (is_open guest.line.items)

-- what is found of him goes by what he said
abbrev pub IsOpen : Option Guest → Type 0
IsOpen None = Unit {0}
IsOpen (Some guest) = is_open guest.line.items ≡ true

abbrev pub IsShown : List TokenDigest → ℕ → Option Guest → Type 0
IsShown tokens seat None = Unit {0}
IsShown tokens seat (Some guest) = (guest.seat ≡ seat) × ShowsToken tokens guest.seat guest.line.items

abbrev pub IsLeftBy : List TokenDigest → Found → Option Guest → Type 0
IsLeftBy tokens founds.Nothing guest = IsOpen guest
IsLeftBy tokens (founds.Refused seat) guest = Unit {0}
IsLeftBy tokens (founds.Shown seat) guest = IsShown tokens seat guest

-- ---- all of them

abbrev pub stands_at : List (Option Guest) → ℕ → Option Guest
stands_at guests place = get_or guests place None

-- who stands at a place stood there before, or nobody does
abbrev pub Stays : List (Option Guest) → List (Option Guest) → ℕ → Type 0
Stays old new place = (stands_at new place ≡ stands_at old place) ⊎ (stands_at new place ≡ None)

-- nobody came
abbrev pub LeavesOnly : List (Option Guest) → List (Option Guest) → Type 0
LeavesOnly old new = (place : ℕ) → Stays old new place

-- at all places but this all is as it was
abbrev pub LeavesOthers : ℕ → List (Option Guest) → List (Option Guest) → Type 0
LeavesOthers place old new = (other : ℕ) → other ≢ place → stands_at new other ≡ stands_at old other

-- to no place but this anybody came
abbrev pub KeepsBut : ℕ → List (Option Guest) → List (Option Guest) → Type 0
KeepsBut place old new = (other : ℕ) → other ≢ place → Stays old new other

-- at no other place somebody waits for this seat
abbrev pub WaitsAlone : ℕ → ℕ → List (Option Guest) → Type 0
WaitsAlone seat place guests = (other : ℕ) → other < GUESTS → other ≢ place → waits_for seat (stands_at guests other) ≡ false

-- where who stands at this place waits for a seat, nobody else does
abbrev pub IsNewest : ℕ → List (Option Guest) → Type 0
IsNewest place guests = (seat : ℕ) → waits_for seat (stands_at guests place) ≡ true → WaitsAlone seat place guests

-- to no place anybody came but one who said nothing wrong so far, or showed the token of his seat: then he alone waits for it
abbrev pub KeepsFit : List TokenDigest → List (Option Guest) → List (Option Guest) → Type 0
KeepsFit tokens old new = (place : ℕ) → (stands_at new place ≡ stands_at old place) ⊎ (IsFit tokens (stands_at new place) × IsNewest place new)

-- for each seat one waits at most
abbrev pub IsOneASeat : List (Option Guest) → Type 0
IsOneASeat guests = (one other seat : ℕ) → one < GUESTS → other < GUESTS → waits_for seat (stands_at guests one) ≡ true → waits_for seat (stands_at guests other) ≡ true → one ≡ other
