-- Since when seats are played for at all. Times are in microseconds.
use Rattle.std.specs.Prelude.{◌≡◌, ◌⊎◌, ℕ, ◌-◌, ◌≤◌, max, Bool, true, ◌||◌, if◌then◌else◌, List, [], ◌∷◌, Option, Some, None, is_some, unwrap_or}
use Rattle.clockwork.specs.declared.opening.Opening.{Opening}
use Rattle.clockwork.specs.SeatWatches.{has_passed}

abbrev pub opening_of : Opening
opening_of = record { first = None; opened = None }

-- the moment at which something was so first
abbrev pub first_after : Option ℕ → Bool → ℕ → Option ℕ
first_after None so now = if so then Some now else None
first_after (Some moment) so now = Some moment

-- each seat has come, or start has passed since the first quorum
abbrev pub opened_after : Option ℕ → Option ℕ → Bool → (start now : ℕ) → Option ℕ
opened_after opened first all_came start now = first_after opened (all_came || has_passed first start now) now

abbrev pub looked : Opening → (quorate all_came : Bool) → (start now : ℕ) → Opening
looked opening quorate all_came start now = record {
  first = first_after opening.first quorate now;
  opened = opened_after opening.opened (first_after opening.first quorate now) all_came start now;
}

abbrev pub is_open : Opening → Bool
is_open opening = is_some opening.opened

abbrev pub stood_open : Opening → ℕ → ℕ
stood_open opening stood = max stood (unwrap_or opening.opened 0)

-- ---- what holds of it

-- one look of a process: whether it had a quorum, whether each seat had come, and when it was
pub record OpeningLook : Type 0 where
  pub quorate : Bool
  pub all_came : Bool
  pub now : ℕ

-- looks the newest first
abbrev pub looked_all : List OpeningLook → ℕ → Opening
looked_all [] start = opening_of
looked_all (look ∷ earlier) start = looked (looked_all earlier start) look.quorate look.all_came start look.now

-- at some look the node had a quorum, at least so long before a moment
abbrev pub HadQuorum : List OpeningLook → (start now : ℕ) → Type 0
HadQuorum [] start now = ⊥
HadQuorum (look ∷ earlier) start now = ((look.quorate ≡ true) × (start ≤ now - look.now)) ⊎ HadQuorum earlier start now

-- at some look each seat had come, or start had passed since the node had a quorum
abbrev pub CouldOpen : List OpeningLook → ℕ → Type 0
CouldOpen [] start = ⊥
CouldOpen (look ∷ earlier) start = ((look.all_came ≡ true) ⊎ HadQuorum (look ∷ earlier) start look.now) ⊎ CouldOpen earlier start

-- seats are played for only then
abbrev pub OpensOnlyThen : List OpeningLook → ℕ → Type 0
OpensOnlyThen looks start = is_open (looked_all looks start) ≡ true → CouldOpen looks start

-- none of them lies ahead of a moment, nor of a later one
abbrev pub IsPast : ℕ → List OpeningLook → Type 0
IsPast now [] = Unit {0}
IsPast now (look ∷ earlier) = (look.now ≤ now) × IsPast look.now earlier

-- and they are then
abbrev pub OpensThen : List OpeningLook → (start now : ℕ) → Type 0
OpensThen looks start now = IsPast now looks → CouldOpen looks start → is_open (looked_all looks start) ≡ true
