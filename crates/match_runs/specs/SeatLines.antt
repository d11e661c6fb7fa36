-- The lines that a record has for seats.
use Rattle.std.specs.Prelude.{◌≡◌, ℕ, ◌<◌, ◌≤◌, ◌+◌, ◌-◌, ◌^◌, Bool, true, false, List, Option, Some, None, slice_get}
use Rattle.protocol_model.specs.Dealers.{Seat}
use Rattle.dealer_world.specs.Records.{Record, Piece, Start, last_start}

-- a line that this node showed a seat since the node was started last
pub record IsLineAt (starts : List Start) (seat node : ℕ) (piece : Piece) : Type 0 where
  pub by_node : piece.node ≡ node
  pub by_start : piece.start ≡ last_start starts node
  pub to_seat : piece.reader ≡ Seat seat

-- from this number on there is none, of as much as can be counted
abbrev pub HasNoLineFrom : Record → ℕ → ℕ → ℕ → Type 0
HasNoLineFrom all seat node first =
    (number : ℕ) (piece : Piece) → first ≤ number → number < 2 ^ 64 - 1 → slice_get all.shown number ≡ Some piece → IsLineAt all.starts seat node piece → ⊥

-- the newest of these
pub record IsNewestLine (all : Record) (seat node : ℕ) (line : List ℕ) : Type 0 where
  pub number : ℕ
  pub piece : Piece
  pub found : slice_get all.shown number ≡ Some piece
  pub is_line : IsLineAt all.starts seat node piece
  pub of_text : piece.text ≡ line
  pub last : HasNoLineFrom all seat node (number + 1)

-- the line that a seat has at a node, if it was shown one there
abbrev pub HasLine : Record → ℕ → ℕ → Option (List ℕ) → Type 0
HasLine all seat node (Some line) = IsNewestLine all seat node line
HasLine all seat node None = HasNoLineFrom all seat node 0

-- the line that a seat has at a node, if any, isn't this one
pub record HasOtherLine (all : Record) (seat node : ℕ) (line : List ℕ) : Type 0 where
  pub newest : Option (List ℕ)
  pub has : HasLine all seat node newest
  pub other : newest ≡ Some line → ⊥

-- a line was shown to a seat, at whatever node
pub record WasShown (all : Record) (seat : ℕ) (line : List ℕ) : Type 0 where
  pub number : ℕ
  pub piece : Piece
  pub found : slice_get all.shown number ≡ Some piece
  pub to_seat : piece.reader ≡ Seat seat
  pub of_text : piece.text ≡ line

-- from this number on it wasn't, of as much as can be counted
abbrev pub WasNotShownFrom : Record → ℕ → List ℕ → ℕ → Type 0
WasNotShownFrom all seat line first =
    (number : ℕ) (piece : Piece) → first ≤ number → number < 2 ^ 64 - 1 → slice_get all.shown number ≡ Some piece → piece.reader ≡ Seat seat → piece.text ≡ line → ⊥

-- whether a line is late at a node: it was shown to the seat, and isn't the one that the seat has there
pub data IsLate (all : Record) (seat node : ℕ) (line : List ℕ) (late : Bool) : Type 0 where
  past : late ≡ true → WasShown all seat line → HasOtherLine all seat node line → IsLate all seat node line late
  newest : late ≡ false → IsNewestLine all seat node line → IsLate all seat node line late
  unseen : late ≡ false → WasNotShownFrom all seat line 0 → IsLate all seat node line late
