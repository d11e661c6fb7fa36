-- The log that `hand` prints beside the answers, each line behind `L `.
use Rattle.std.specs.Prelude.{ℕ, true, List, [], ◌∷◌, length, drop, Option, Some, None, codes}
use Rattle.game_def.specs.Game.{Game}
use Rattle.match_log.specs.Log.{Title, log_lines}
use Rattle.match_log.specs.Fronted.{fronted}
use Rattle.streamed.specs.Told.{commands_of, names_of}
use Rattle.streamed.specs.declared.script_line.ScriptLine.{ScriptLine}

-- the log's title: the match is called `hand`
abbrev pub title_of : ℕ → List ℕ → Title
title_of count word = record { name = codes "hand"; game = word; hands = count }

-- the whole log after these lines of the script: none until the seats are named
abbrev pub log_after : Game → ℕ → List ℕ → List ScriptLine → List ℕ
log_after game count word before =
    elim (names_of before) [ None ↦ [] | Some names ↦ log_lines game (title_of count word) names (commands_of before) ]

-- a text of the log with `L ` in front of each of its lines
abbrev pub lettered : List ℕ → List ℕ
lettered text = fronted (codes "L ") true text

-- where the log is printed under a word for its game: what it has after a line of the script that it hadn't before
abbrev pub logged : Game → ℕ → Option (List ℕ) → List ScriptLine → ScriptLine → List ℕ
logged game count None before said = []
logged game count (Some word) before said =
    lettered (drop (length (log_after game count word before)) (log_after game count word (said ∷ before)))
