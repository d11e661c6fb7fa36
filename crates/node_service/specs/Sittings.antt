-- How the bots of seats are at a node, and how that changes.
use Rattle.std.specs.Prelude.{◌≡◌, ◌⊎◌, ℕ, ◌<◌, Bool, true, false, Option, Some, None, Result, Err, get_or}
use Rattle.dealer_node.specs.declared.fault.NodeFault.{NodeFault}
use Rattle.dealer_node.specs.declared.fault.NodeFault.TheVariants.{OutOfMemory}
use Rattle.dealer_world.specs.declared.event.Event.{Event}
use Rattle.dealer_world.specs.declared.event.Event.TheVariants as event
use Rattle.node_service.specs.declared.limits.TheConstants.{SEATS}
use Rattle.node_service.specs.declared.sitting.Sitting.{Sitting}
use Rattle.node_service.specs.declared.sitting.Sitting.TheVariants.{Away, Here, LetGo}
use Rattle.node_service.specs.declared.sitting.Sittings.{Sittings}

abbrev pub sitting_at : Sittings → ℕ → Sitting
sitting_at sittings seat = get_or sittings.all seat Away

-- bots that were here may be let go of, and else nothing changes
abbrev pub Loosens : Sittings → Sittings → Type 0
Loosens old new = (seat : ℕ) → (sitting_at new seat ≡ sitting_at old seat) ⊎ ((sitting_at old seat ≡ Here) × (sitting_at new seat ≡ LetGo))

-- and that of this seat is, if it was here
pub record Frees (at : ℕ) (old new : Sittings) : Type 0 where
  pub loosened : Loosens old new
  pub free : sitting_at new at ≡ Here → ⊥

-- of this seat it is so from now on, and of the others as before
pub record Sets (at : ℕ) (sitting : Sitting) (old new : Sittings) : Type 0 where
  pub here : sitting_at new at ≡ sitting
  pub others : (seat : ℕ) → (at ≡ seat → ⊥) → sitting_at new seat ≡ sitting_at old seat

-- the seat that connects is one
abbrev pub IsSeated : Event → Type 0
IsSeated (event.Connect node seat) = seat < SEATS
IsSeated (event.Frame from to bytes) = Unit {0}
IsSeated (event.Line node seat bytes) = Unit {0}
IsSeated (event.Tick node) = Unit {0}
IsSeated (event.Away node) = Unit {0}
IsSeated (event.Drop node seat) = Unit {0}
IsSeated (event.Stop node pick) = Unit {0}
IsSeated (event.Start node) = Unit {0}

-- a node that runs or not may be given it: of a seat only while it runs, what a bot says only while it is here, and that a bot connects only where none was
abbrev pub Admits : Bool → Event → Sittings → Type 0
Admits runs (event.Line node seat bytes) sittings = (runs ≡ true) × (sitting_at sittings seat ≡ Here)
Admits runs (event.Connect node seat) sittings = (runs ≡ true) × (sitting_at sittings seat ≡ Away) × (seat < SEATS)
Admits runs (event.Drop node seat) sittings = runs ≡ true
Admits runs (event.Frame from to bytes) sittings = Unit {0}
Admits runs (event.Tick node) sittings = Unit {0}
Admits runs (event.Away node) sittings = Unit {0}
Admits runs (event.Stop node pick) sittings = Unit {0}
Admits runs (event.Start node) sittings = Unit {0}

-- a call that was answered so was given what it brought: none was made, or there was no memory, or it was
abbrev pub IsGivenBy : Bool → Option (Result (Unit {0}) NodeFault) → Type 0
IsGivenBy true None = ⊥
IsGivenBy false None = Unit {0}
IsGivenBy true (Some answer) = answer ≡ Err OutOfMemory → ⊥
IsGivenBy false (Some answer) = answer ≡ Err OutOfMemory

-- what the node was given changes
abbrev pub Settles : Event → Sittings → Sittings → Type 0
Settles (event.Connect node seat) old new = Sets seat Here old new
Settles (event.Drop node seat) old new = Sets seat Away old new
Settles (event.Line node seat bytes) old new = new ≡ old
Settles (event.Frame from to bytes) old new = new ≡ old
Settles (event.Tick node) old new = new ≡ old
Settles (event.Away node) old new = new ≡ old
Settles (event.Stop node pick) old new = new ≡ old
Settles (event.Start node) old new = new ≡ old

-- the seat whose bot is let go of where this isn't given to the node
abbrev pub seat_in : Event → Option ℕ
seat_in (event.Line node seat bytes) = Some seat
seat_in (event.Connect node seat) = Some seat
seat_in (event.Drop node seat) = None
seat_in (event.Frame from to bytes) = None
seat_in (event.Tick node) = None
seat_in (event.Away node) = None
seat_in (event.Stop node pick) = None
seat_in (event.Start node) = None

abbrev pub LetsGo : Option ℕ → Sittings → Sittings → Type 0
LetsGo None old new = Loosens old new
LetsGo (Some seat) old new = Frees seat old new

-- this isn't given to the node
abbrev pub Refuses : Event → Sittings → Sittings → Type 0
Refuses e old new = LetsGo (seat_in e) old new
