-- What the sessions of a seat are given, and what had come over its line.
use Rattle.std.specs.Prelude.{◌≡◌, ℕ, ◌==◌, if◌then◌else◌, List, [], ◌∷◌, ◌++◌}
use Rattle.node_wires.specs.Passages.{Passage, came_over}
use Rattle.node_wires.specs.declared.line.Line.TheVariants.{Seat}
use Rattle.dealer_world.specs.Records.{Arrived, Delivered, Came, Connected, Dropped, Ordered}
use Rattle.stations.specs.Deeds.{Deed}

-- the session that a node has of a seat: none, or one that was given these bytes since the seat connected; or bytes were given to none
pub data Session : Type 0 where
  Without : Session
  With : (given : List ℕ) → Session
  Astray : Session

abbrev pub with_more : List ℕ → Session → Session
with_more bytes Without = Astray
with_more bytes (With given) = With (given ++ bytes)
with_more bytes Astray = Astray

-- after one thing that arrived
abbrev pub session_by : ℕ → Session → Arrived → Session
session_by seat session (Connected node at) = if at == seat then With [] else session
session_by seat session (Came node at bytes) = if at == seat then with_more bytes session else session
session_by seat session (Dropped node at) = if at == seat then Without else session
session_by seat session (Delivered frame) = session
session_by seat session (Ordered node front) = session

abbrev pub session_behind : ℕ → Session → List Arrived → Session
session_behind seat session [] = session
session_behind seat session (arrived ∷ more) = session_behind seat (session_by seat session arrived) more

-- after all these deeds of a process, of which the newest stands first
abbrev pub session_of : ℕ → List Deed → Session
session_of seat [] = Without
session_of seat (deed ∷ before) = session_behind seat (session_of seat before) deed.arrived

-- a session was given a beginning of this
abbrev pub IsBeginning : Session → List ℕ → Type 0
IsBeginning Without came = Unit {0}
IsBeginning (With given) came = (rest : List ℕ) × (came ≡ given ++ rest)
IsBeginning Astray came = ⊥

-- once so much of what passed had passed, the session was given a beginning of what had come over the line of its seat; and what was so before was so by then
pub record WasGiven (seat : ℕ) (session : Session) (passed : List Passage) (before : List Passage → Type 0) : Type 0 where
  pub by_then : List Passage
  pub since : List Passage
  pub passed_is : passed ≡ by_then ++ since
  pub given : IsBeginning session (came_over by_then (Seat seat))
  pub earlier : before by_then

-- behind each of these deeds, in turn, what the session had been given was a beginning of what had come over the line since its bot was taken in
abbrev pub AreGiven : ℕ → List Deed → List Passage → Type 0
AreGiven seat [] passed = Unit {0}
AreGiven seat (deed ∷ before) passed = WasGiven seat (session_of seat (deed ∷ before)) passed (AreGiven seat before)
