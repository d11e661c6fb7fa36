-- How the places of the lines of a match follow one another.
use Rattle.std.specs.Prelude.{◌≡◌, ℕ, List, [], ◌∷◌, Some}
use Rattle.game_def.specs.Game.{Game}
use Rattle.slot_log.specs.Beginnings.{IsBeginning}
use Rattle.slot_log.specs.Hand.{Hand}
use Rattle.slot_log.specs.Dealer.{hands_of}
use Rattle.slot_log.specs.declared.command.Command.{Command}
use Rattle.line_cursor.specs.declared.cursor.Cursor.{Cursor}
use Rattle.line_cursor.specs.Past.{hands_at}
use Rattle.line_cursor.specs.Cursors.{cursors, next_cursor}

-- by these hands each is the next one after the one before it
abbrev pub FollowFrom : Game → List Hand → Cursor → List Cursor → Type 0
FollowFrom game hands cursor [] = Unit {0}
FollowFrom game hands cursor (next ∷ more) = (next ≡ next_cursor game hands cursor) × FollowFrom game hands next more

abbrev pub Follow : Game → List Hand → List Cursor → Type 0
Follow game hands [] = Unit {0}
Follow game hands (first ∷ more) = FollowFrom game hands first more

-- so do all places of a match
abbrev pub CursorsFollow : Type 0
CursorsFollow = (game : Game) (count : ℕ) (commands : List Command) → Follow game (hands_of game count commands) (cursors game count commands)

-- which place is the next is the same by all tables of a match that have come to this one
abbrev pub NextCursorStays : Type 0
NextCursorStays = (game : Game) (count : ℕ) (commands earlier : List Command) (cursor : Cursor) (found : List Hand) → IsBeginning earlier commands
    → hands_at (hands_of game count earlier) cursor.hand cursor.actions ≡ Some found
    → next_cursor game (hands_of game count commands) cursor ≡ next_cursor game (hands_of game count earlier) cursor
