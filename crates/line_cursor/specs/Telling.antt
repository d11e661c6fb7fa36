-- What a seat is told from a place in the lines of a match on, line after line, each by a table that has come to it.
use Rattle.std.specs.Prelude.{◌≡◌, ℕ, List, [], ◌∷◌, ◌++◌, length, Some}
use Rattle.game_def.specs.Game.{Game}
use Rattle.betting.specs.Text.{text}
use Rattle.slot_log.specs.Beginnings.{IsBeginning}
use Rattle.slot_log.specs.Dealer.{hands_of}
use Rattle.slot_log.specs.declared.command.Command.{Command}
use Rattle.matchstate.specs.View.{View}
use Rattle.matchstate.specs.Line.{line_text}
use Rattle.seat_relay.specs.Relaying.{Line}
use Rattle.seat_relay.specs.Dealing.{dealers_lines}
use Rattle.seat_relay.specs.Laws.{IsFront}
use Rattle.line_cursor.specs.declared.cursor.Cursor.{Cursor}
use Rattle.line_cursor.specs.Past.{seat_view_at}
use Rattle.line_cursor.specs.Cursors.{cursor_at, cursors, next_cursor}

-- the line of a view, and where a relay puts it
abbrev pub line_of_view : View → Line
line_of_view view = record { text = line_text view; place = record { hand = view.hand; len = length (text view.game view.past) } }

-- a table after a beginning of the commands has what the seat saw at this place, and the line shows it
pub record IsTold (game : Game) (count seat : ℕ) (commands : List Command) (cursor : Cursor) (line : Line) : Type 0 where
  pub earlier : List Command
  pub is_beginning : IsBeginning earlier commands
  pub view : View
  pub found : seat_view_at game (hands_of game count earlier) seat cursor.hand cursor.actions ≡ Some view
  pub line_is : line ≡ line_of_view view

-- line after line, by whatever tables, each time the one at the cursor, which then moves on
abbrev pub AreTold : Game → ℕ → ℕ → List Command → Cursor → List Line → Type 0
AreTold game count seat commands cursor [] = Unit {0}
AreTold game count seat commands cursor (line ∷ more) =
    (told : IsTold game count seat commands cursor line) × AreTold game count seat commands (next_cursor game (hands_of game count told.earlier) cursor) more

-- these lines have what was told after as many lines as there are places before, without a gap
pub record GoesOn (lines told : List Line) (before : List Cursor) : Type 0 where
  pub front : List Line
  pub rest : List Line
  pub joined : lines ≡ front ++ (told ++ rest)
  pub as_many : length front ≡ length before

-- what a cursor tells from one of a match's places on is a part of the seat's lines of the one dealer, from the line of that place on, without a gap
abbrev pub CursorsTellTheLines : Type 0
CursorsTellTheLines = (game : Game) (count seat : ℕ) (commands : List Command) (before after : List Cursor) (cursor : Cursor) (told : List Line)
    → cursors game count commands ≡ before ++ cursor ∷ after → AreTold game count seat commands cursor told → GoesOn (dealers_lines game count seat commands) told before

-- and from the first place on a beginning of them
abbrev pub FirstCursorsTellABeginning : Type 0
FirstCursorsTellABeginning = (game : Game) (count seat : ℕ) (commands : List Command) (told : List Line) → AreTold game count seat commands (cursor_at 0 0) told
    → IsFront told (dealers_lines game count seat commands)
