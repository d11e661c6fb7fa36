-- Entries in the order of their slots.
use Rattle.std.specs.Prelude.{ℕ, ◌+◌, ◌<◌, ◌≤◌, nat_eq, if◌then◌else◌, Option, Some, None, List, [], ◌∷◌, length, take, drop, ⊤}
use Rattle.std.specs.List.{AllByRecursion}
use Rattle.std.specs.Coded.{×_prop, Unit-prop, le_prop}
use Rattle.paxos_wire.specs.declared.ballot.Ballot.{Ballot}
use Rattle.promise_store.specs.declared.placed.Placed.{Placed}
use Rattle.paxos_wire.specs.Order.{is_below}

-- their slots rise, from one on
abbrev pub Rise : ℕ → List Placed → Type 0
Rise from [] = ⊤
Rise from (e ∷ entries) = (from ≤ e.slot) × Rise (e.slot + 1) entries

pub Rise-prop : (from : ℕ) (entries : List Placed) → IsProp (Rise from entries)
Rise-prop from [] = Unit-prop
Rise-prop from (e ∷ entries) = ×_prop le_prop (Rise-prop (e.slot + 1) entries)

-- the first entry of a slot
abbrev pub found : ℕ → List Placed → Option Placed
found slot [] = None
found slot (e ∷ entries) = if nat_eq slot e.slot then Some e else found slot entries

-- the entries in front of the place are of lower slots, those from it on of no lower ones
pub record IsPosition (slot : ℕ) (entries : List Placed) (place : ℕ) : Type 0 where
  pub within : place ≤ length entries
  pub below : AllByRecursion (λ e. e.slot < slot) (take place entries)
  pub above : AllByRecursion (λ e. slot ≤ e.slot) (drop place entries)

-- of what was there and what comes: the one of the greater ballot, of one ballot the later
abbrev pub later : {A : Type 0} → (A → Ballot) → Option A → A → A
later ballot_of None new = new
later ballot_of (Some old) new = if is_below (ballot_of new) (ballot_of old) then old else new
