-- The place of a line among all lines.
use Rattle.std.specs.Prelude.{ℕ, ◌+◌, nat_lt, if◌then◌else◌, Option, Some, None}
use Rattle.node_wires.specs.declared.limits.TheConstants.{DIALLED, CALLERS, SEATS, GUESTS, ASKERS}
use Rattle.node_wires.specs.declared.line.Line.{Line}
use Rattle.node_wires.specs.declared.line.Line.TheVariants.{Peer, Caller, Seat, Guest, Asker}

-- that of the one of this number among so many, of which the first has this place; none of a greater number
abbrev pub within : ℕ → ℕ → ℕ → Option ℕ
within number count first = if nat_lt number count then Some (first + number) else None

abbrev pub place_of : Line → Option ℕ
place_of (Peer number) = within number DIALLED 0
place_of (Caller place) = within place CALLERS DIALLED
place_of (Seat number) = within number SEATS (DIALLED + CALLERS)
place_of (Guest place) = within place GUESTS (DIALLED + CALLERS + SEATS)
place_of (Asker place) = within place ASKERS (DIALLED + CALLERS + SEATS + GUESTS)
