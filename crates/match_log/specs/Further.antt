-- The lines that a log has further once a command has taken effect.
use Rattle.std.specs.Prelude.{ℕ, zero, suc, List, [], ◌∷◌, ◌++◌, is_none, if◌then◌else◌}
use Rattle.std.specs.List.{flat_map}
use Rattle.std.specs.Option.{option_to_list}
use Rattle.game_def.specs.Game.{Game}
use Rattle.slot_log.specs.Hand.{Hand}
use Rattle.slot_log.specs.declared.command.Command.{Command}
use Rattle.slot_log.specs.Dealer.{finished_count, hand_at, hands_of, is_match_over, is_running, reason_of}
use Rattle.match_log.specs.Lines.{state_line, score_line}

-- the line of the last of so many finished hands
abbrev pub last_line : Game → List (List ℕ) → List Hand → ℕ → List ℕ
last_line game names hands zero = []
last_line game names hands (suc number) = flat_map (state_line game names number) (option_to_list (hand_at hands number))

-- the score where the match is over
abbrev pub score_of : Game → ℕ → List (List ℕ) → List Hand → List ℕ
score_of game count names hands = if is_match_over game count hands then score_line game names hands else []

-- what the log has further after a command that took effect, by the hands then: while a hand runs nothing, else the
-- line of the hand that has ended, and the score where the match is over
abbrev pub further_lines : Game → ℕ → List (List ℕ) → List Hand → List ℕ
further_lines game count names hands =
    if is_running game hands then []
    else last_line game names hands (finished_count game hands) ++ score_of game count names hands

-- what a command adds to the log after those before it, newest first: nothing where it doesn't fit
abbrev pub log_added : Game → ℕ → List (List ℕ) → List Command → Command → List ℕ
log_added game count names commands command =
    if is_none (reason_of game count (hands_of game count commands) command)
    then further_lines game count names (hands_of game count (command ∷ commands))
    else []
