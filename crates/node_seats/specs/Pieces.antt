-- The pieces that are taken of seats.
use Rattle.std.specs.Prelude.{◌≡◌, ◌≤◌, ◌==◌, ℕ, Bool, true, false, length, Option, Some, None}
use Rattle.node_seats.specs.declared.limits.TheConstants.{PIECE}
use Rattle.node_seats.specs.declared.seat_notice.SeatNotice.{SeatNotice}
use Rattle.node_seats.specs.declared.seat_notice.SeatNotice.TheVariants as notices

-- a piece is of this seat, and has so many bytes at most; what memory was refused for is of this seat
abbrev pub IsPieceOf : (seat most : ℕ) → Option SeatNotice → Type 0
IsPieceOf seat most None = Unit {0}
IsPieceOf seat most (Some (notices.Came at)) = Unit {0}
IsPieceOf seat most (Some (notices.Piece at bytes)) = (at ≡ seat) × (length bytes.items ≤ most)
IsPieceOf seat most (Some (notices.Gone at)) = Unit {0}
IsPieceOf seat most (Some (notices.Refused at source)) = Unit {0}
IsPieceOf seat most (Some (notices.Unread at)) = at ≡ seat

-- more may be had at once, but not behind a piece that is shorter than it may be, nor while memory is refused
abbrev pub may_have_more : SeatNotice → Bool
may_have_more (notices.Piece seat bytes) = length bytes.items == PIECE
may_have_more (notices.Came seat) = true
may_have_more (notices.Gone seat) = true
may_have_more (notices.Refused seat source) = true
may_have_more (notices.Unread seat) = false
