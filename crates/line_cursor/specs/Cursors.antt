-- The places of the lines of a match: each seat gets a line after each deal and after each action.
use Rattle.std.specs.Prelude.{ℕ, ◌+◌, ◌==◌, ◌&&◌, Bool, false, nat_le, if◌then◌else◌, List, [], ◌∷◌, ◌++◌, length, Option, Some, None, option_to_list}
use Rattle.game_def.specs.Game.{Game}
use Rattle.slot_log.specs.Hand.{Hand}
use Rattle.slot_log.specs.Dealer.{is_finished, hands_of, reason_of, with_command}
use Rattle.slot_log.specs.declared.command.Command.{Command}
use Rattle.slot_log.specs.declared.reason.Reason.{Reason}
use Rattle.line_cursor.specs.declared.cursor.Cursor.{Cursor}

abbrev pub cursor_at : ℕ → ℕ → Cursor
cursor_at hand actions = record { hand = hand; actions = actions }

-- the place of the newest line; none before the first deal
abbrev pub newest_cursor : List Hand → Option Cursor
newest_cursor [] = None
newest_cursor (newest ∷ before) = Some (cursor_at (length before) (length newest.past))

-- the place of the line that a command brings, if it takes effect
abbrev pub cursors_by : Game → List Hand → Command → Option Reason → List Cursor
cursors_by game hands command None = option_to_list (newest_cursor (with_command game hands command))
cursors_by game hands command (Some reason) = []

-- those of a list of commands, of which the newest stands first: the oldest place first
unfoldable pub cursors : Game → ℕ → List Command → List Cursor
cursors game count [] = []
cursors game count (command ∷ earlier) =
    cursors game count earlier ++ cursors_by game (hands_of game count earlier) command (reason_of game count (hands_of game count earlier) command)

-- the hand of a number was dealt, and is over after its first so many actions
abbrev pub is_over_after : Game → List Hand → ℕ → ℕ → Bool
is_over_after game [] hand actions = false
is_over_after game (newest ∷ earlier) hand actions =
    if hand == length earlier then nat_le (length newest.past) actions && is_finished game newest else is_over_after game earlier hand actions

-- the place after one that the match has come to: the next deal if the hand was over, else the hand's next action
abbrev pub next_cursor : Game → List Hand → Cursor → Cursor
next_cursor game hands cursor = if is_over_after game hands cursor.hand cursor.actions then cursor_at (cursor.hand + 1) 0 else cursor_at cursor.hand (cursor.actions + 1)
