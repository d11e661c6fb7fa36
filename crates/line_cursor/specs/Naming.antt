-- What a text that a seat names is to a match: a line that it was told, one that may still come, or neither.
use Rattle.std.specs.Prelude.{◌≡◌, ◌≢◌, ℕ, ◌^◌, ◌<◌, ◌≤◌, ◌==◌, ◌||◌, Bool, List, length, Some, None, decimal, count_by}
use Rattle.game_def.specs.Game.{Game, IsGame}
use Rattle.slot_log.specs.Beginnings.{IsBeginning}
use Rattle.slot_log.specs.Hand.{Hand}
use Rattle.slot_log.specs.Dealer.{hands_of, finished_count}
use Rattle.slot_log.specs.declared.command.Command.{Command}
use Rattle.matchstate.specs.Line.{IsField, joined, line_text}
use Rattle.matchstate.specs.View.{View, IsView}
use Rattle.line_cursor.specs.declared.cursor.Cursor.{Cursor}
use Rattle.line_cursor.specs.declared.named_line.NamedLine.{NamedLine}
use Rattle.line_cursor.specs.declared.named_line.NamedLine.TheVariants.{Told, Ahead, Other}
use Rattle.line_cursor.specs.Cursors.{cursor_at}
use Rattle.line_cursor.specs.Past.{seat_line_at}

-- f, c or r, with which an action begins in a betting text
abbrev pub is_action_letter : ℕ → Bool
is_action_letter byte = byte == 102 || byte == 99 || byte == 114

-- the text is a line's word and four fields, of which the second and the third are these
pub record HasPlaceFields (text hand betting : List ℕ) : Type 0 where
  pub position : List ℕ
  pub cards : List ℕ
  pub whole : text ≡ joined (record { position = position; hand = hand; betting = betting; cards = cards })
  pub position_field : IsField position
  pub hand_field : IsField hand
  pub betting_field : IsField betting

-- the second is the number of a hand, and the third has so many actions
pub record NamesPlace (text : List ℕ) (cursor : Cursor) : Type 0 where
  pub betting : List ℕ
  pub has_fields : HasPlaceFields text (decimal cursor.hand) betting
  pub hand_below : cursor.hand < 2 ^ 32
  pub action_count : cursor.actions ≡ count_by is_action_letter betting

-- the line of a view names its hand, and how many actions it shows
abbrev pub LinesNameTheirPlaces : Type 0
LinesNameTheirPlaces = (view : View) → IsGame view.game → IsView view → NamesPlace (line_text view) (cursor_at view.hand (length view.past))

-- a match of so many hands may still come to a place: its hand isn't over, and has fewer actions
pub record MayCome (game : Game) (count : ℕ) (hands : List Hand) (seat : ℕ) (cursor : Cursor) : Type 0 where
  pub hand_not_over : finished_count game hands ≤ cursor.hand
  pub hand_within : cursor.hand < count
  pub not_yet : seat_line_at game hands seat cursor.hand cursor.actions ≡ None

-- what a text is to a seat of a match
abbrev pub IsNamed : Game → ℕ → List Hand → ℕ → List ℕ → NamedLine → Type 0
IsNamed game count hands seat text (Told cursor) = seat_line_at game hands seat cursor.hand cursor.actions ≡ Some text
IsNamed game count hands seat text (Ahead cursor) = NamesPlace text cursor × MayCome game count hands seat cursor
IsNamed game count hands seat text Other =
    (cursor : Cursor) → NamesPlace text cursor → (seat_line_at game hands seat cursor.hand cursor.actions ≢ Some text) × ¬ (MayCome game count hands seat cursor)

-- what is no line of a seat never becomes one
abbrev pub OthersStay : Type 0
OthersStay = (game : Game) (count seat : ℕ) (commands earlier : List Command) (text : List ℕ) → IsBeginning earlier commands
    → IsNamed game count (hands_of game count earlier) seat text Other → IsNamed game count (hands_of game count commands) seat text Other
