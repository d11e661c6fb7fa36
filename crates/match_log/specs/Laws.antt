-- That a log only grows, and what each command adds to it.
use Rattle.std.specs.Prelude.{◌≡◌, ℕ, ◌≤◌, List, [], ◌∷◌, ◌++◌}
use Rattle.game_def.specs.Game.{Game}
use Rattle.slot_log.specs.declared.command.Command.{Command}
use Rattle.match_log.specs.Lines.{header_line}
use Rattle.match_log.specs.Log.{Title, log_lines}
use Rattle.match_log.specs.Further.{log_added}

-- what the log says after some commands stands at its beginning after any later ones (newest first): they add
-- to its end, or nothing, whatever they are
abbrev pub LogsGrow : Type 0
LogsGrow =
    (game : Game) (title : Title) (names : List (List ℕ)) (later commands : List Command)
    → (rest : List ℕ) × (log_lines game title names (later ++ commands) ≡ log_lines game title names commands ++ rest)

-- each command adds to the end of the log what it adds, and changes nothing else
abbrev pub CommandsAddToTheLog : Type 0
CommandsAddToTheLog =
    (game : Game) (title : Title) (names : List (List ℕ)) (commands : List Command) (command : Command)
    → log_lines game title names (command ∷ commands)
    ≡ log_lines game title names commands ++ log_added game title.hands names commands command

-- before the first command the log of a match of some hands is its header
abbrev pub LogsBeginWithTheirHeader : Type 0
LogsBeginWithTheirHeader =
    (game : Game) (title : Title) (names : List (List ℕ)) → 1 ≤ title.hands
    → log_lines game title names [] ≡ header_line title.name title.game title.hands
