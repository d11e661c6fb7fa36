-- What is written to the bots of seats.
use Rattle.std.specs.Prelude.{◌≡◌, ℕ, List, [], ◌∷◌, ◌++◌}
use Rattle.node_wires.specs.declared.line.Line.{Line}
use Rattle.node_wires.specs.declared.line.Line.TheVariants.{Peer, Caller, Seat, Guest, Asker}
use Rattle.node_seats.specs.Others.{KeepsOthers}
use Rattle.node_wires.specs.Passages.{Passage, Began, Came, Wrote, Gave, Logged, Tried, Ended, Closed, Saw, Waited, Called, seats_in, wrote_over, logged_in}

abbrev pub IsSeats : Line → Type 0
IsSeats (Seat number) = Unit {0}
IsSeats (Peer number) = ⊥
IsSeats (Caller place) = ⊥
IsSeats (Guest place) = ⊥
IsSeats (Asker place) = ⊥

-- a piece was written to a seat, perhaps in vain, or its connection was closed
abbrev pub IsToSeat : Passage → Type 0
IsToSeat (Wrote line bytes) = IsSeats line
IsToSeat (Began line) = ⊥
IsToSeat (Came line bytes) = ⊥
IsToSeat (Gave place seat) = ⊥
IsToSeat (Logged text) = ⊥
IsToSeat (Tried line way) = IsSeats line
IsToSeat (Ended line way) = IsSeats line
IsToSeat (Closed line) = IsSeats line
IsToSeat (Saw moment) = ⊥
IsToSeat (Waited most) = ⊥
IsToSeat Called = ⊥

abbrev pub AreToSeats : List Passage → Type 0
AreToSeats [] = Unit {0}
AreToSeats (p ∷ more) = IsToSeat p × AreToSeats more

-- all that passed is of that kind
pub record WritesToSeats (old new : List Passage) : Type 0 where
  pub more : List Passage
  pub to_seats : AreToSeats more
  pub passed : new ≡ old ++ more

-- of what waits for a seat, so much is written to it and no longer waits; to no other seat anything is, and nothing comes of any
pub record Writes (number : ℕ) (old new : List ℕ) (passed_old passed_new : List Passage) : Type 0 where
  pub said : wrote_over passed_new (Seat number) ++ new ≡ wrote_over passed_old (Seat number) ++ old
  pub others : (seat : ℕ) → (seat ≡ number → ⊥) → wrote_over passed_new (Seat seat) ≡ wrote_over passed_old (Seat seat)
  pub seats : seats_in passed_new ≡ seats_in passed_old
  pub left : KeepsOthers passed_old passed_new
  pub log : logged_in passed_new ≡ logged_in passed_old
  pub all : WritesToSeats passed_old passed_new
