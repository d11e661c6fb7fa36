-- What one turn takes: what peers told, then of each seat one thing at most, and then one frame of a peer at most.
use Rattle.std.specs.Prelude.{◌≡◌, ℕ, ◌+◌, ◌<◌, ◌≤◌, ◌==◌, Bool, true, false, if◌then◌else◌, List, [], ◌∷◌, ◌++◌, length, Option}
use Rattle.std.specs.Int.{bit_at}
use Rattle.node_wires.specs.declared.line.Line.{Line}
use Rattle.node_wires.specs.declared.line.Line.TheVariants.{Peer, Caller, Seat, Guest, Asker}
use Rattle.node_wires.specs.Passages.{Passage, Began, Came, Gave}
use Rattle.node_seats.specs.declared.limits.TheConstants.{PIECE}
use Rattle.node_seats.specs.declared.seat.Seat.{Seat as Place}
use Rattle.node_seats.specs.declared.seat_notice.SeatNotice.{SeatNotice}
use Rattle.node_seats.specs.declared.seat_notice.SeatNotice.TheVariants as notices
use Rattle.node_seats.specs.Pieces.{IsPieceOf}
use Rattle.node_seats.specs.Seating.{bit_of, sits_at}
use Rattle.node_service.specs.declared.limits.TheConstants.{SEATS}
use Rattle.node_service.specs.Arriving.{Incoming, seats_of, peers_of}
use Rattle.node_service.specs.Crossing.{HasNoLife, EndsAtLife}
use Rattle.node_service.specs.Telling.{incoming_by}

-- ---- pieces

abbrev pub piece_over : ℕ → Line → List ℕ → List (List ℕ)
piece_over seat (Seat number) bytes = if number == seat then bytes ∷ [] else []
piece_over seat (Peer number) bytes = []
piece_over seat (Caller place) bytes = []
piece_over seat (Guest place) bytes = []
piece_over seat (Asker place) bytes = []

-- the pieces that came over the line of a seat
abbrev pub pieces_of : ℕ → List Passage → List (List ℕ)
pieces_of seat [] = []
pieces_of seat (Came line bytes ∷ more) = piece_over seat line bytes ++ pieces_of seat more
pieces_of seat (other ∷ more) = pieces_of seat more

-- there is one at most, no longer than a piece may be
abbrev pub IsOnePiece : List (List ℕ) → Type 0
IsOnePiece [] = Unit {0}
IsOnePiece (piece ∷ more) = (length piece ≤ PIECE) × (more ≡ [])

-- ---- who comes

abbrev pub begins_over : ℕ → Line → ℕ
begins_over seat (Seat number) = if number == seat then 1 else 0
begins_over seat (Peer number) = 0
begins_over seat (Caller place) = 0
begins_over seat (Guest place) = 0
begins_over seat (Asker place) = 0

-- how often a connection began at a seat
abbrev pub begins_at : ℕ → List Passage → ℕ
begins_at seat [] = 0
begins_at seat (Began line ∷ more) = begins_over seat line + begins_at seat more
begins_at seat (Gave place number ∷ more) = begins_over seat (Seat number) + begins_at seat more
begins_at seat (other ∷ more) = begins_at seat more

-- what came of a seat: connections that began at it, and pieces
abbrev pub things_at : ℕ → List Incoming → ℕ
things_at seat things = begins_at seat (seats_of things) + length (pieces_of seat (seats_of things))

-- the bits of seats of which something came are set then, and weren't before
abbrev pub Counts : ℕ → ℕ → List Incoming → Type 0
Counts before after things = (seat : ℕ) → seat < SEATS → bit_at after seat ≡ bit_at before seat + things_at seat things

-- of its seat nothing came before
abbrev pub IsFirstOf : ℕ → SeatNotice → Type 0
IsFirstOf before (notices.Came number) = number < SEATS → bit_at before number ≡ 0
IsFirstOf before (notices.Piece number bytes) = number < SEATS → bit_at before number ≡ 0
IsFirstOf before other = Unit {0}

-- no connection began at a closed seat, one whose bit is set
abbrev pub Spares : ℕ → List Incoming → Type 0
Spares closed things = (seat : ℕ) → seat < SEATS → bit_at closed seat ≡ 1 → begins_at seat (seats_of things) ≡ 0

-- at each seat a connection began once at most, and at none where one of these bots sits
abbrev pub IsOneAt : List Place → List Incoming → Type 0
IsOneAt bots things = (seat : ℕ) → seat < SEATS → begins_at seat (seats_of things) + bit_of (sits_at bots seat) ≤ 1

-- ---- what is taken

-- frames of peers alone
pub record AreFrames (things : List Incoming) : Type 0 where
  pub seats : seats_of things ≡ []
  pub lives : HasNoLife (peers_of things)

-- of peers alone, and nothing behind a node whose life is to be kept
pub record ComeOfPeers (things : List Incoming) : Type 0 where
  pub seats : seats_of things ≡ []
  pub lives : EndsAtLife (peers_of things)

-- of seats alone, and of each one thing at most, one that came or a piece
pub record ComeOfSeats (things : List Incoming) : Type 0 where
  pub peers : peers_of things ≡ []
  pub pieces : (seat : ℕ) → IsOnePiece (pieces_of seat (seats_of things))
  pub one : (seat : ℕ) → seat < SEATS → things_at seat things ≤ 1

-- what came next of a seat, or of a guest, by its number
abbrev pub IsNextOf : ℕ → List Incoming → Type 0
IsNextOf at things = (notice : Option SeatNotice) × ((things ≡ incoming_by notice) × IsPieceOf at PIECE notice)

-- of peers what was told, where that is all of it frames alone
pub record AreRead (all : Bool) (things : List Incoming) : Type 0 where
  pub peers : ComeOfPeers things
  pub frames : all ≡ true → AreFrames things

-- one frame of a peer at most, and none where not all of peers was read
pub record IsLate (read : Bool) (things : List Incoming) : Type 0 where
  pub frames : AreFrames things
  pub most : length things ≤ 1
  pub none : read ≡ false → things ≡ []

-- of peers first, and then of seats
pub record ComeInTurn (read : Bool) (things : List Incoming) : Type 0 where
  pub first : List Incoming
  pub last : List Incoming
  pub all : things ≡ first ++ last
  pub peers : AreRead read first
  pub seats : ComeOfSeats last

-- of peers first, then of seats, and then one frame of a peer at most
pub record IsTurn (things : List Incoming) : Type 0 where
  pub read : Bool
  pub early : List Incoming
  pub late : List Incoming
  pub all : things ≡ early ++ late
  pub first : ComeInTurn read early
  pub then_on : IsLate read late

-- the next of a seat is the first of it, and at none of the closed ones did a connection begin
pub record IsNextBut (at closed before after : ℕ) (things : List Incoming) : Type 0 where
  pub next : IsNextOf at things
  pub counts : Counts before after things
  pub spares : Spares closed things

-- those who came to ports of seats: no pieces, each counted at its seat, and at none of the closed ones did a connection begin
pub record AreCallersBut (closed before after : ℕ) (things : List Incoming) : Type 0 where
  pub peers : peers_of things ≡ []
  pub pieces : (seat : ℕ) → pieces_of seat (seats_of things) ≡ []
  pub counts : Counts before after things
  pub spares : Spares closed things

abbrev pub ComeOfSeatsBut : ℕ → List Incoming → Type 0
ComeOfSeatsBut closed things = ComeOfSeats things × Spares closed things

-- a turn so far, by which nobody was taken in at a closed seat
abbrev pub IsTurnBut : ℕ → Bool → List Incoming → Type 0
IsTurnBut closed read things = ComeInTurn read things × Spares closed things

-- a turn so far, before which these bots sat at the seats
abbrev pub IsBegunOf : List Place → Bool → List Incoming → Type 0
IsBegunOf bots read things = ComeInTurn read things × IsOneAt bots things

-- a turn, before which these bots sat there
abbrev pub IsTurnOf : List Place → List Incoming → Type 0
IsTurnOf bots things = IsTurn things × IsOneAt bots things
