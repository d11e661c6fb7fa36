-- The log of a match, as far as it has come.
use Rattle.std.specs.Prelude.{ℕ, List, [], ◌∷◌, ◌++◌, length, if◌then◌else◌}
use Rattle.game_def.specs.Game.{Game}
use Rattle.slot_log.specs.Hand.{Hand}
use Rattle.slot_log.specs.declared.command.Command.{Command}
use Rattle.slot_log.specs.Dealer.{is_finished, is_match_over, hands_of}
use Rattle.match_log.specs.Lines.{header_line, state_line, score_line}

-- what the header says
pub record Title : Type 0 where
  pub name : List ℕ
  pub game : List ℕ
  pub hands : ℕ

-- a line for each finished one of the hands, which are newest first; the lines are oldest first
unfoldable pub state_lines : Game → List (List ℕ) → List Hand → List ℕ
state_lines game names [] = []
state_lines game names (hand ∷ earlier) =
    state_lines game names earlier ++ (if is_finished game hand then state_line game names (length earlier) hand else [])

-- the header, a line for each finished hand, and the score where the match is over
unfoldable pub log_of : Game → Title → List (List ℕ) → List Hand → List ℕ
log_of game title names hands =
    header_line title.name title.game title.hands
    ++ (state_lines game names hands ++ (if is_match_over game title.hands hands then score_line game names hands else []))

-- the whole log after a list of commands, newest first
unfoldable pub log_lines : Game → Title → List (List ℕ) → List Command → List ℕ
log_lines game title names commands = log_of game title names (hands_of game title.hands commands)
