-- What connections bring to a relay, line by line.
use Rattle.std.specs.Prelude.{◌≡◌, ℕ, List, ◌++◌, length, map, IsTrue}
use Rattle.std.specs.List.{AllByRecursion}
use Rattle.promise_store.specs.declared.disk.Disk.{Ghosts}
use Rattle.slot_log.specs.Hand.{Match}
use Rattle.dealer_kind.specs.Kind.{Setting}
use Rattle.dealer_kind.specs.declared.source.Source.{Source}
use Rattle.dealer_world.specs.RuleRuns.{plan_of}
use Rattle.stations.specs.Deeds.{Deed, Doing}
use Rattle.stations.specs.Joining.{AreProcesses}
use Rattle.stations.specs.Tables.{WasTable}
use Rattle.line_cursor.specs.declared.cursor.Cursor.{Cursor}
use Rattle.seat_relay.specs.Places.{IsPlaced}
use Rattle.seat_relay.specs.Relaying.{Line, Event, Begins, Ends, Tells, Closes, Says, Pushes, all_given}
use Rattle.seat_relay.specs.declared.mode.Mode.{Mode}
use Rattle.seat_relay.specs.Laws.{fresh, told_over, IsGivenOf}
use Rattle.node_seats.specs.Telling.{TellsFrom}
use Rattle.joined_lines.specs.Chosen.{lines_by, IsByChosen}

-- a line that a node tells has the place that its text names
abbrev pub IsOfPlaced : Event → Type 0
IsOfPlaced (Begins node) = Unit {0}
IsOfPlaced (Ends node) = Unit {0}
IsOfPlaced (Tells node line) = IsPlaced line.text line.place
IsOfPlaced (Closes node) = Unit {0}
IsOfPlaced (Says text) = Unit {0}
IsOfPlaced (Pushes node) = Unit {0}

abbrev pub text_in : Line → List ℕ
text_in line = line.text

-- a seat is told these lines first and then further ones, one after another without a gap, each off such a table
pub record AreToldFirst (such : Match → Type 0) (seat : ℕ) (texts : List (List ℕ)) : Type 0 where
  pub start : Cursor
  pub next : Cursor
  pub further : List (List ℕ)
  pub told : TellsFrom such seat start (texts ++ further) next

-- at each moment this holds of the lines that each node has told over its connection
abbrev pub BringToldLines : (Match → Type 0) → ℕ → List Event → Type 0
BringToldLines such seat events = (node : ℕ) (front behind : List Event) → events ≡ front ++ behind → AreToldFirst such seat (map text_in (told_over node front))

module _ {D : Type 0} (g : Ghosts D) where
  -- where each connection brings lines that a seat is told off tables of a match's nodes, the bot is given a beginning of the seat's lines of the one dealer, or a part of them without a gap where they may
  -- begin anywhere
  abbrev pub ConnectionsTellOneMatch : Type 0
  ConnectionsTellOneMatch = (setting : Setting) (sources : List Source) (histories : ℕ → List Deed) (all : List Doing) → AreProcesses setting sources histories all → IsTrue g.is_honest
      → (seat : ℕ) (mode : Mode) (nodes : ℕ) (events : List Event) → AllByRecursion IsOfPlaced events → BringToldLines (WasTable g (plan_of setting sources) histories) seat events
      → IsByChosen (length sources) all (λ commands. IsGivenOf mode.newest (all_given (fresh mode nodes) events) (lines_by setting seat commands))
