-- Where a seat sits, since when it is waited for, and when it is given up. Times are in microseconds.
use Rattle.std.specs.Prelude.{◌≡◌, ℕ, ◌-◌, ◌≤◌, ◌<◌, max, Bool, true, false, not, ◌&&◌, ◌||◌, ◌==◌, if◌then◌else◌, nat_lt, nat_le, List, [], ◌∷◌, ◌⊎◌, replicate, Option, Some, None, is_some, unwrap_or, fold, slice_get, slice_set}
use Rattle.std.specs.List.{list_any}
use Rattle.clockwork.specs.declared.seat_watch.At.{At}
use Rattle.clockwork.specs.declared.seat_watch.At.TheVariants.{Gone, Empty, Sits, Taken}
use Rattle.clockwork.specs.declared.seat_watch.Place.{Place}
use Rattle.clockwork.specs.declared.seat_watch.Acts.{Acts}
use Rattle.clockwork.specs.declared.seat_watch.SeatLook.{SeatLook}
use Rattle.clockwork.specs.declared.seat_watch.SeatWatch.{SeatWatch}
use Rattle.clockwork.specs.declared.limits.TheConstants.{MOST_NODES}
use Rattle.clockwork.specs.ActionTimeout.{seated_after}
use Rattle.clockwork.specs.Watches.{begun, since}

-- the wait begins anew by a node where a bot comes to sit there, and where the node is gone while one sat there
unfoldable pub place_after : Place → At → (moved now : ℕ) → Place
place_after place Gone moved now = record { sits = false; begun = if place.sits then Some (seated_after place.begun moved now) else place.begun }
place_after place Empty moved now = record { sits = false; begun = place.begun }
place_after place Sits moved now = record { sits = true; begun = if place.sits then place.begun else Some (seated_after place.begun moved now) }
place_after place Taken moved now = record { sits = true; begun = Some (seated_after place.begun moved now) }

abbrev pub set_place : List Place → ℕ → Option Place → At → (moved now : ℕ) → List Place
set_place places node None at moved now = places
set_place places node (Some place) at moved now = slice_set places node (place_after place at moved now)

-- one of them is seen so
abbrev pub with_place : List Place → ℕ → At → (moved now : ℕ) → List Place
with_place places node at moved now = set_place places node (slice_get places node) at moved now

abbrev pub sits_somewhere : List Place → Bool
sits_somewhere places = list_any (λ place. place.sits) places

-- the latest of a moment and of those at which the wait began anew
unfoldable pub since_of : List Place → ℕ → ℕ
since_of places stood = fold (λ latest place. max latest (unwrap_or place.begun 0)) stood places

abbrev pub has_passed : Option ℕ → (length now : ℕ) → Bool
has_passed None length now = false
has_passed (Some moment) length now = nat_le length (now - moment)

-- how many default actions it had in a row when it was given up
unfoldable pub given_up_after : Option ℕ → Bool → ℕ → Option ℕ
given_up_after earlier given defaults = if given then Some (begun earlier defaults) else None

-- nothing is known of a seat yet
abbrev pub seat_of : SeatWatch
seat_of = record { places = replicate MOST_NODES (record { sits = false; begun = None }); has_come = false; nowhere = None; has_sat = false; defaults = 0; given_up = None }

-- it sits somewhere, or has sat somewhere since its newest act
abbrev pub sat_after : SeatWatch → Acts → Bool
sat_after seat acts = sits_somewhere seat.places || (seat.has_sat && (acts.defaults == seat.defaults))

-- since when it has sat nowhere, as far as a node with a quorum knows
abbrev pub nowhere_after : SeatWatch → SeatLook → Option ℕ
nowhere_after seat seen = since seat.nowhere (seen.quorate && not (sits_somewhere seat.places)) seen.now

-- its newest act is a default action, it has sat nowhere since that came, and nowhere for as long as a seat may hold the table
abbrev pub is_given_up : SeatWatch → Acts → SeatLook → Bool
is_given_up seat acts seen =
    seen.gives_up && (nat_lt 0 acts.defaults && (not (sat_after seat acts) && has_passed (nowhere_after seat seen) seen.patience seen.now))

abbrev pub looked_at : SeatWatch → Acts → SeatLook → SeatWatch
looked_at seat acts seen = record {
  places = seat.places;
  has_come = seat.has_come || (acts.has_acted || sits_somewhere seat.places);
  nowhere = nowhere_after seat seen;
  has_sat = sat_after seat acts;
  defaults = acts.defaults;
  given_up = given_up_after seat.given_up (is_given_up seat acts seen) acts.defaults;
}

-- how many of its turns were played for since it was given up
abbrev pub turns_from : ℕ → Option ℕ → Option ℕ
turns_from defaults None = None
turns_from defaults (Some first) = Some (defaults - first)

abbrev pub turns_of : SeatWatch → Option ℕ
turns_of seat = turns_from seat.defaults seat.given_up

-- ---- what holds of it

-- where the wait has begun anew by a node while the front stands, it doesn't again, whatever is seen there
abbrev pub BeginsAnewOnce : Place → At → (moved first later : ℕ) → Type 0
BeginsAnewOnce place at moved first later = place.begun ≡ Some first → moved ≤ first → (place_after place at moved later).begun ≡ Some first

-- where it hasn't, it does now where a bot comes to sit there, and where the node is gone while one sat there
abbrev pub BeginsAnew : Place → At → (moved now : ℕ) → Type 0
BeginsAnew place at moved now =
    ((first : ℕ) → place.begun ≡ Some first → first < moved)
    → ((place.sits ≡ false) × ((place_after place at moved now).sits ≡ true)) ⊎ ((place.sits ≡ true) × (at ≡ Gone))
    → (place_after place at moved now).begun ≡ Some now

-- what is seen of a seat at one look: of each node, of the list, and beside
pub record Sighting : Type 0 where
  pub places : List Place
  pub acts : Acts
  pub seen : SeatLook

-- looks the newest first
abbrev pub seat_behind : List Sighting → SeatWatch
seat_behind [] = seat_of
seat_behind (look ∷ earlier) = looked_at (record (seat_behind earlier) { places = look.places }) look.acts look.seen

-- it sits somewhere, or the list has an act that it said itself
abbrev pub is_here : Sighting → Bool
is_here look = look.acts.has_acted || sits_somewhere look.places

-- a seat has come exactly where it was here at some look
abbrev pub ComesExactlyThen : List Sighting → Type 0
ComesExactlyThen looks = (seat_behind looks).has_come ≡ list_any is_here looks

-- at no look since the list had so many default actions of it in a row did it sit anywhere
abbrev pub IsNowhereSince : ℕ → List Sighting → Type 0
IsNowhereSince defaults [] = Unit {0}
IsNowhereSince defaults (look ∷ earlier) = look.acts.defaults ≡ defaults → (sits_somewhere look.places ≡ false) × IsNowhereSince defaults earlier

-- nor at any since one that is so long ago, and at each of these this node had a quorum
abbrev pub IsNowhereFor : (length now : ℕ) → List Sighting → Type 0
IsNowhereFor length now [] = ⊥
IsNowhereFor length now (look ∷ earlier) =
    ((look.seen.quorate ≡ true) × (sits_somewhere look.places ≡ false)) × ((length ≤ now - look.seen.now) ⊎ IsNowhereFor length now earlier)

-- it may be given up, its newest act is a default action, it sat nowhere since that came, and nowhere for as long as it may hold the table
abbrev pub IsAway : List Sighting → Type 0
IsAway [] = ⊥
IsAway (look ∷ earlier) =
    ((look.seen.gives_up ≡ true) × (0 < look.acts.defaults))
    × (IsNowhereSince look.acts.defaults (look ∷ earlier) × IsNowhereFor look.seen.patience look.seen.now (look ∷ earlier))

-- a seat is given up only then
abbrev pub GivesUpOnlyThen : List Sighting → Type 0
GivesUpOnlyThen looks = is_some (seat_behind looks).given_up ≡ true → IsAway looks

-- no look lies ahead of a moment, nor of a later one
abbrev pub IsPast : ℕ → List Sighting → Type 0
IsPast now [] = Unit {0}
IsPast now (look ∷ earlier) = (look.seen.now ≤ now) × IsPast look.seen.now earlier

-- and it is then
abbrev pub GivesUpThen : List Sighting → ℕ → Type 0
GivesUpThen looks now = IsPast now looks → IsAway looks → is_some (seat_behind looks).given_up ≡ true

-- as long as it is given up its turns are counted from one and the same
abbrev pub CountsOn : SeatWatch → Acts → SeatLook → ℕ → Type 0
CountsOn seat acts seen first =
    seat.given_up ≡ Some first → is_some (looked_at seat acts seen).given_up ≡ true → turns_of (looked_at seat acts seen) ≡ Some (acts.defaults - first)
