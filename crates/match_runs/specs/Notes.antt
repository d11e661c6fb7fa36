-- Which notes tell what a match does that is served.
use Rattle.std.specs.Prelude.{ℕ, ◌+◌, ◌-◌, ◌%◌, ◌==◌, ◌||◌, Bool, if◌then◌else◌, List, [], ◌∷◌, ◌++◌, Option, Some, None, slice_get, get_or}
use Rattle.dealer_node.specs.declared.fault.NodeFault.{NodeFault}
use Rattle.dealer_node.specs.declared.fault.NodeFault.TheVariants as fault
use Rattle.dealer_world.specs.Stepping.{View}
use Rattle.serving.specs.declared.turn.Turn.{Turn}
use Rattle.serving.specs.declared.turn.Turn.TheVariants as turn
use Rattle.operator_notes.specs.declared.note.About.TheVariants.{Seated, Gone, Played}
use Rattle.operator_notes.specs.declared.note.Note.{Note}
use Rattle.operator_notes.specs.declared.note.Note.TheVariants as note
use Rattle.operator_notes.specs.declared.seat_ports.SeatPorts.{SeatPorts}
use Rattle.operator_notes.specs.Notes.{about_text, note_line, port_at, seat_text, waiting_text}

-- the seats' names
abbrev pub names_in : {N : Type 0} → View N → List (List ℕ)
names_in view = view.config.setting.names

-- what is told of the ports at so many nodes: of each seat from this number on, by its name
abbrev pub ports_notes : SeatPorts → ℕ → ℕ → List (List ℕ) → List Note
ports_notes ports nodes seat [] = []
ports_notes ports nodes seat (name ∷ names) = note.Ports seat name ports nodes ∷ ports_notes ports nodes (seat + 1) names

-- what is told of a seat that is awaited, if one is, and there is one of this number: its number, then the node
abbrev pub awaited_notes : List (List ℕ) → SeatPorts → Option (ℕ × ℕ) → List Note
awaited_notes names ports None = []
awaited_notes names ports (Some place) =
    elim (slice_get names place.0) [ Some name ↦ note.Awaiting place.0 name place.1 (port_at ports place.1 place.0) ∷ [] | None ↦ [] ]

-- the same where the turn before may have waited: then it was told already
abbrev pub first_notes : ℕ → List (List ℕ) → SeatPorts → Option (ℕ × ℕ) → List Note
first_notes waits names ports awaited = if waits == 0 then awaited_notes names ports awaited else []

-- of turns in a row that waited the first is told, and each twelfth
abbrev pub is_told : ℕ → Bool
is_told waits = waits == 1 || waits % 12 == 0

-- what is told of a seat that is waited for, where there is one of this number
abbrev pub waiting_lines : List (List ℕ) → SeatPorts → ℕ → ℕ → Option (List ℕ) → List (List ℕ)
waiting_lines names ports seat node line =
    elim (slice_get names seat) [ Some name ↦ (waiting_text seat name node (port_at ports node seat) line ++ 10 ∷ []) ∷ [] | None ↦ [] ]

-- what is told of a seat, where there is one of this number
abbrev pub seat_lines : List (List ℕ) → ℕ → List ℕ → List (List ℕ)
seat_lines names seat text = elim (slice_get names seat) [ Some name ↦ (seat_text seat name ++ text ++ 10 ∷ []) ∷ [] | None ↦ [] ]

-- of so many hands that were dealt the newest; none of none
abbrev pub newest_of : ℕ → Option ℕ
newest_of count = if count == 0 then None else Some (count - 1)

-- what is told of an order at a node: who is played for, and in which hand; nothing where none was dealt
abbrev pub hand_lines : List (List ℕ) → ℕ → ℕ → Option ℕ → List (List ℕ)
hand_lines names seat node None = []
hand_lines names seat node (Some hand) = seat_lines names seat (about_text (Played node hand))

-- the same where so many hands had been dealt at each node: the newest of them at the node of the order
abbrev pub played_lines : List (List ℕ) → List ℕ → ℕ → ℕ → List (List ℕ)
played_lines names dealt seat node = hand_lines names seat node (newest_of (get_or dealt node 0))

-- what is told of a turn that called this node last, but for what was read and for an order
abbrev pub turn_lines : List (List ℕ) → ℕ → Turn → List (List ℕ)
turn_lines names node (turn.Seated seat i) = seat_lines names seat (about_text (Seated i))
turn_lines names node (turn.Gone seat) = seat_lines names seat (about_text (Gone node))
turn_lines names node (turn.Stopped i) = note_line (note.Stopped i) ∷ []
turn_lines names node (turn.Started i) = note_line (note.Started i) ∷ []
turn_lines names node other = []

-- what is told of what refused the last call of a node: that its store failed, if it did
abbrev pub failure_notes : ℕ → Option NodeFault → List Note
failure_notes node (Some (fault.Store why)) = note.Failed node (fault.Store why) ∷ []
failure_notes node other = []
