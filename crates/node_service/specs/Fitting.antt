-- What a node was given of its seats, beside what came of them.
use Rattle.std.specs.Prelude.{◌≡◌, ℕ, List, ◌++◌}
use Rattle.node_wires.specs.Passages.{Passage, came_over, seats_in}
use Rattle.node_wires.specs.declared.line.Line.TheVariants.{Seat}
use Rattle.stations.specs.Deeds.{Deed}
use Rattle.node_service.specs.Arriving.{Incoming, seats_of}
use Rattle.node_service.specs.Served.{Served}
use Rattle.node_service.specs.Sessions.{Session, Without, With, session_of, AreGiven}
use Rattle.node_service.specs.Sittings.{sitting_at}
use Rattle.node_service.specs.declared.sitting.Sitting.{Sitting}
use Rattle.node_service.specs.declared.sitting.Sitting.TheVariants.{Away, Here, LetGo}
use Rattle.node_service.specs.declared.sitting.Sittings.{Sittings}

-- the session of a seat whose bot is so, over whose line this came: of one that is here it was given all of it
abbrev pub FitsAt : Sitting → Session → List ℕ → Type 0
FitsAt Away session came = session ≡ Without
FitsAt Here session came = session ≡ With came
FitsAt LetGo session came = Unit {0}

-- of each seat: its sessions were given beginnings of what came over its line at all times, and all of it as long as its bot is here
abbrev pub FitsFor : List Deed → Sittings → List Passage → Type 0
FitsFor deeds sittings passed = (seat : ℕ) → AreGiven seat deeds passed × FitsAt (sitting_at sittings seat) (session_of seat deeds) (came_over passed (Seat seat))

abbrev pub Fits : {N : Type 0} → Served N → Type 0
Fits served = FitsFor served.look.deeds served.sittings (seats_in served.passed)

-- the same but for what was taken last
abbrev pub FitsBut : {N : Type 0} → List Incoming → Served N → Type 0
FitsBut taken served = (earlier : List Passage) × ((seats_in served.passed ≡ earlier ++ seats_of taken) × FitsFor served.look.deeds served.sittings earlier)
