-- What `serve` tells of one turn.
use Rattle.std.specs.Prelude.{◌≡◌, ℕ, ◌+◌, Bool, true, false, List, map, length, slice_get, get_or, Option, Some, None}
use Rattle.std.specs.Io.KnownBytes.{Keeps}
use Rattle.promise_store.specs.declared.disk.Disk.{Ghosts}
use Rattle.dealer_kind.specs.Kind.{hands_after}
use Rattle.node_rules.specs.Standings.{Standing, applied}
use Rattle.dealer_node.specs.Nodes.{Node}
use Rattle.dealer_node.specs.Seeing.{member_in, IsSeen}
use Rattle.dealer_world.specs.Records.{Record}
use Rattle.dealer_world.specs.Stepping.{View}
use Rattle.serving.specs.Served.{Served}
use Rattle.serving.specs.declared.turn.Turn.{Turn}
use Rattle.serving.specs.declared.turn.Turn.TheVariants as turn
use Rattle.operator_notes.specs.Notes.{AreNoted, note_line}
use Rattle.match_runs.specs.Notes.{names_in, is_told, waiting_lines, played_lines, turn_lines, failure_notes}
use Rattle.match_runs.specs.Refusals.{TellsFaults}
use Rattle.match_runs.specs.SeatLines.{HasLine}
use Rattle.operator_notes.specs.declared.seat_ports.SeatPorts.{SeatPorts}

-- how many turns in a row have waited, after this one
abbrev pub waits_after : Turn → ℕ → ℕ
waits_after (turn.Waits seat node) before = before + 1
waits_after other before = 0

-- the line that is told of a seat: that which it has, where it is read from; one that is awaited has none
abbrev pub HasLineToTell : Record → Bool → ℕ → ℕ → Option (List ℕ) → Type 0
HasLineToTell all true seat node line = line ≡ None
HasLineToTell all false seat node line = HasLine all seat node line

-- it was told which seat is waited for
pub record TellsWaiting {N : Type 0} (view : View N) (ports : SeatPorts) (is_awaited : Bool) (seat node : ℕ) (held held_after : Option (List ℕ)) : Type 0 where
  pub line : Option (List ℕ)
  pub is_line : HasLineToTell view.all is_awaited seat node line
  pub noted : AreNoted (waiting_lines (names_in view) ports seat node line) held held_after

-- the same of a wait that is to be told; else nothing was
abbrev pub TellsWaitingOrNot : {N : Type 0} → Bool → View N → SeatPorts → Bool → ℕ → ℕ → Option (List ℕ) → Option (List ℕ) → Type 0
TellsWaitingOrNot true view ports is_awaited seat node held held_after = TellsWaiting view ports is_awaited seat node held held_after
TellsWaitingOrNot false view ports is_awaited seat node held held_after = Keeps held held_after

-- what a turn did was told, that called this node last, and for which this piece was read; before it so many hands had been dealt at each node
abbrev pub TellsDone : {N : Type 0} → View N → List ℕ → ℕ → List ℕ → Turn → Option (List ℕ) → Option (List ℕ) → Type 0
TellsDone view dealt node piece (turn.Read seat) held held_after = TellsFaults view piece node view.last.faults held held_after
TellsDone view dealt node piece (turn.Away seat i) held held_after = AreNoted (played_lines (names_in view) dealt seat i) held held_after
TellsDone view dealt node piece other held held_after = AreNoted (turn_lines (names_in view) node other) held held_after

-- a turn was told that left the server so: what it did, and that the store failed of the node that was called
pub record TellsCall {N : Type 0} (dealt : List ℕ) (t : Turn) (new : Served N) (held held_after : Option (List ℕ)) : Type 0 where
  pub between : Option (List ℕ)
  pub done : TellsDone new.view dealt new.called new.piece t held between
  pub failed : AreNoted (map note_line (failure_notes new.called new.refused)) between held_after

-- of a turn that waited it is told for which seat, where it is the first in a row, or a twelfth
abbrev pub TellsAfter : {N : Type 0} → SeatPorts → Bool → List ℕ → ℕ → Turn → Served N → Option (List ℕ) → Option (List ℕ) → Type 0
TellsAfter ports is_awaited dealt waits (turn.Waits seat node) new held held_after = TellsWaitingOrNot (is_told waits) new.view ports is_awaited seat node held held_after
TellsAfter ports is_awaited dealt waits other new held held_after = TellsCall dealt other new held held_after

module _ {D : Type 0} (g : Ghosts D) where
  -- so many hands were dealt at a node, by its own table: none at one that is down
  abbrev pub HasDealt : View (Node D) → ℕ → ℕ → Type 0
  HasDealt view node count =
      (d : Node D) (s : Standing) → slice_get view.nodes node ≡ Some d → IsSeen g d s → length (hands_after (member_in d).setting (applied s)) ≡ count

  -- so many at each node, in their order
  abbrev pub AreDealt : View (Node D) → List ℕ → Type 0
  AreDealt view dealt = (node : ℕ) → HasDealt view node (get_or dealt node 0)
