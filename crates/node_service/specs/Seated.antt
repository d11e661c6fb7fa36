-- Who sits at a seat is somebody to the node.
use Rattle.std.specs.Prelude.{◌≡◌, ◌⊎◌, ℕ, true, false, List, [], ◌∷◌, Option, Some, None}
use Rattle.node_wires.specs.Passages.{Began}
use Rattle.node_wires.specs.declared.line.Line.TheVariants.{Seat as SeatOf}
use Rattle.node_seats.specs.declared.seat.Seat.{Seat}
use Rattle.node_seats.specs.Seating.{sits_at}
use Rattle.dealer_world.specs.declared.event.Event.{Event}
use Rattle.dealer_world.specs.declared.event.Event.TheVariants as event
use Rattle.node_service.specs.Arriving.{Incoming, seats_of}
use Rattle.node_service.specs.Served.{Served}
use Rattle.node_service.specs.Sittings.{sitting_at}
use Rattle.node_service.specs.declared.sitting.Sitting.{Sitting}
use Rattle.node_service.specs.declared.sitting.Sitting.TheVariants.{Away, Here, LetGo}

-- the node has a session of him, or is still to be told that he is gone
abbrev pub IsSomebody : Sitting → Type 0
IsSomebody Away = ⊥
IsSomebody Here = Unit {0}
IsSomebody LetGo = Unit {0}

-- so is whoever sits at a seat
abbrev pub AreSomebody : {N : Type 0} → Served N → Type 0
AreSomebody served = (seat : ℕ) → sits_at served.bots seat ≡ true → IsSomebody (sitting_at served.sittings seat)

-- the same but for one who was taken in last
abbrev pub AreSomebodyBut : {N : Type 0} → List Incoming → Served N → Type 0
AreSomebodyBut taken served = (seat : ℕ) → sits_at served.bots seat ≡ true → IsSomebody (sitting_at served.sittings seat) ⊎ (seats_of taken ≡ Began (SeatOf seat) ∷ [])

-- who sits there sat there before
abbrev pub SatBefore : (old new : List Seat) → Type 0
SatBefore old new = (seat : ℕ) → sits_at new seat ≡ true → sits_at old seat ≡ true

-- nobody sits at this seat, if it is one
abbrev pub IsFree : Option ℕ → List Seat → Type 0
IsFree None bots = Unit {0}
IsFree (Some seat) bots = sits_at bots seat ≡ false

-- the seat of which the node has no session any more once it was given this
abbrev pub seat_left : Event → Option ℕ
seat_left (event.Drop node seat) = Some seat
seat_left (event.Connect node seat) = None
seat_left (event.Line node seat bytes) = None
seat_left (event.Frame from to bytes) = None
seat_left (event.Tick node) = None
seat_left (event.Away node) = None
seat_left (event.Stop node pick) = None
seat_left (event.Start node) = None
