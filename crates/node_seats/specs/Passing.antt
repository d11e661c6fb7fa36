-- What passed over the wires where something came of a seat.
use Rattle.std.specs.Prelude.{◌≡◌, ◌⊎◌, ℕ, List, [], ◌∷◌, ◌++◌, Option, Some, None}
use Rattle.node_wires.specs.declared.line.Line.{Line}
use Rattle.node_wires.specs.declared.line.Line.TheVariants.{Peer, Caller, Seat, Guest, Asker}
use Rattle.node_wires.specs.declared.way.Way.TheVariants.{Reading}
use Rattle.node_wires.specs.Passages.{Passage, Began, Came as PieceCame, Wrote, Gave, Logged, Tried, Ended, Closed, Saw, Waited, Called}
use Rattle.node_seats.specs.declared.seat_notice.SeatNotice.{SeatNotice}
use Rattle.node_seats.specs.declared.seat_notice.SeatNotice.TheVariants as notices

-- a bot that was taken in is a connection that began, a piece is one that came, and by all else nothing moved
abbrev pub passages_of : SeatNotice → List Passage
passages_of (notices.Came seat) = Began (Seat seat) ∷ []
passages_of (notices.Piece seat bytes) = PieceCame (Seat seat) bytes.items ∷ []
passages_of (notices.Gone seat) = []
passages_of (notices.Refused seat source) = []
passages_of (notices.Unread seat) = []

-- the seat of which it came
abbrev pub seat_of : SeatNotice → ℕ
seat_of (notices.Came seat) = seat
seat_of (notices.Piece seat bytes) = seat
seat_of (notices.Gone seat) = seat
seat_of (notices.Refused seat source) = seat
seat_of (notices.Unread seat) = seat

abbrev pub passed_by : Option SeatNotice → List Passage
passed_by None = []
passed_by (Some notice) = passages_of notice

-- that alone, and what moved nothing: by an end the connection was closed, of which a read may have found before that it ended;
-- where nothing is told a read may have found nothing
abbrev pub IsPassedBy : Option SeatNotice → List Passage → Type 0
IsPassedBy None more = (more ≡ []) ⊎ ((seat : ℕ) × (more ≡ Tried (Seat seat) Reading ∷ []))
IsPassedBy (Some (notices.Came seat)) more = more ≡ Began (Seat seat) ∷ []
IsPassedBy (Some (notices.Piece seat bytes)) more = more ≡ PieceCame (Seat seat) bytes.items ∷ []
IsPassedBy (Some (notices.Gone seat)) more = (more ≡ Closed (Seat seat) ∷ []) ⊎ (more ≡ Ended (Seat seat) Reading ∷ Closed (Seat seat) ∷ [])
IsPassedBy (Some (notices.Refused seat source)) more = more ≡ []
IsPassedBy (Some (notices.Unread seat)) more = more ≡ []

-- what came is what passed
pub record Passed (notice : Option SeatNotice) (old new : List Passage) : Type 0 where
  pub more : List Passage
  pub behind : new ≡ old ++ more
  pub by_it : IsPassedBy notice more

-- what passed where a seat is asked at which somebody sits: where nothing is told a read found nothing, and where it is told that
-- memory was refused nothing passed
abbrev pub ReadsSeat : ℕ → Option SeatNotice → List Passage → List Passage → Type 0
ReadsSeat at None old new = new ≡ old ++ Tried (Seat at) Reading ∷ []
ReadsSeat at (Some (notices.Piece seat bytes)) old new = (seat ≡ at) × (new ≡ old ++ PieceCame (Seat at) bytes.items ∷ [])
ReadsSeat at (Some (notices.Gone seat)) old new = (seat ≡ at) × ((new ≡ old ++ Closed (Seat at) ∷ []) ⊎ (new ≡ old ++ Ended (Seat at) Reading ∷ Closed (Seat at) ∷ []))
ReadsSeat at (Some (notices.Unread seat)) old new = (seat ≡ at) × (new ≡ old)
ReadsSeat at (Some (notices.Came seat)) old new = ⊥
ReadsSeat at (Some (notices.Refused seat source)) old new = ⊥

-- who is let go of has a connection that is closed
abbrev pub closed_by : ℕ → Option SeatNotice → List Passage
closed_by number None = []
closed_by number (Some notice) = Closed (Seat number) ∷ []

-- what waits for a seat behind what came of it: nothing for a bot that was taken in, nor for one that is gone
abbrev pub Leaves : Option SeatNotice → List ℕ → List ℕ → Type 0
Leaves None old new = new ≡ old
Leaves (Some (notices.Piece seat bytes)) old new = new ≡ old
Leaves (Some (notices.Refused seat source)) old new = new ≡ old
Leaves (Some (notices.Unread seat)) old new = new ≡ old
Leaves (Some (notices.Came seat)) old new = new ≡ []
Leaves (Some (notices.Gone seat)) old new = new ≡ []

-- nobody was taken in, nor refused
abbrev pub TakesNobody : Option SeatNotice → Type 0
TakesNobody None = Unit {0}
TakesNobody (Some (notices.Piece seat bytes)) = Unit {0}
TakesNobody (Some (notices.Gone seat)) = Unit {0}
TakesNobody (Some (notices.Unread seat)) = Unit {0}
TakesNobody (Some (notices.Refused seat source)) = ⊥
TakesNobody (Some (notices.Came seat)) = ⊥

-- and nothing came: at most one who sat there is gone
abbrev pub HearsNothing : Option SeatNotice → Type 0
HearsNothing None = Unit {0}
HearsNothing (Some (notices.Gone seat)) = Unit {0}
HearsNothing (Some (notices.Piece seat bytes)) = ⊥
HearsNothing (Some (notices.Refused seat source)) = ⊥
HearsNothing (Some (notices.Unread seat)) = ⊥
HearsNothing (Some (notices.Came seat)) = ⊥

-- ---- guests

abbrev pub IsGuests : Line → Type 0
IsGuests (Guest place) = Unit {0}
IsGuests (Peer number) = ⊥
IsGuests (Caller place) = ⊥
IsGuests (Seat number) = ⊥
IsGuests (Asker place) = ⊥

-- a guest was taken in, a piece of one came, a read found none, or his connection ended or was closed
abbrev pub IsOfGuests : Passage → Type 0
IsOfGuests (Began line) = IsGuests line
IsOfGuests (PieceCame line bytes) = IsGuests line
IsOfGuests (Wrote line bytes) = ⊥
IsOfGuests (Gave place seat) = ⊥
IsOfGuests (Logged text) = ⊥
IsOfGuests (Tried line way) = IsGuests line
IsOfGuests (Ended line way) = IsGuests line
IsOfGuests (Closed line) = IsGuests line
IsOfGuests (Saw moment) = ⊥
IsOfGuests (Waited most) = ⊥
IsOfGuests Called = ⊥

abbrev pub AreOfGuests : List Passage → Type 0
AreOfGuests [] = Unit {0}
AreOfGuests (p ∷ more) = IsOfGuests p × AreOfGuests more

-- over guests' lines this passed more, and it was put down
pub record Grows (old new wired_old wired_new : List Passage) : Type 0 where
  pub more : List Passage
  pub of_guests : AreOfGuests more
  pub put_down : new ≡ old ++ more
  pub wired : wired_new ≡ wired_old ++ more
