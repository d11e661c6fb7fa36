-- How far a script was read and answered.
use Rattle.std.specs.Prelude.{◌≡◌, ℕ, List, [], ◌++◌, take, Option, IfNone}
use Rattle.std.specs.Io.KnownBytes.{Appends}
use Rattle.game_def.specs.Game.{Game}
use Rattle.slot_log.specs.Dealer.{hands_of}
use Rattle.streamed.specs.Told.{commands_of, names_of}
use Rattle.streamed.specs.Script.{AreLines, SayInTurn, Script, answers}
use Rattle.streamed.specs.declared.dealing.Dealing.{Dealing}
use Rattle.streamed.specs.declared.running.Running.{Running}
use Rattle.streamed.specs.declared.script_line.ScriptLine.{ScriptLine}

-- a match stands as the lines so far have made it
pub record Stands (game : Game) (count : ℕ) (log : Option (List ℕ)) (before : List ScriptLine) (dealing : Dealing) : Type 0 where
  pub game_is : dealing.table.game ≡ game
  pub count_is : dealing.table.count ≡ count
  pub hands_are : dealing.table.hands ≡ hands_of game count (commands_of before)
  pub names_are : dealing.names ≡ names_of before
  pub log_is : dealing.log ≡ log
  pub names_first : IfNone (names_of before) (commands_of before ≡ [])

-- so much of a script was read, its whole lines are answered, and the front of the line that has begun is kept
pub record Shows (game : Game) (count : ℕ) (log : Option (List ℕ)) (start : Option (List ℕ)) (seen : List ℕ) (running : Running) (now : Option (List ℕ)) : Type 0 where
  pub lines : List (List ℕ)
  pub rest : List ℕ
  pub says : List ScriptLine
  pub are_lines : AreLines seen lines rest
  pub say_in_turn : SayInTurn game count lines says
  pub stands : Stands game count log says running.dealing
  pub kept : running.line.items ≡ take 336 rest
  pub written : Appends start now (answers game count log says)

-- what was written is a beginning of what is to be written for a beginning of the script
pub record Begins (game : Game) (count : ℕ) (log : Option (List ℕ)) (start : Option (List ℕ)) (read : List ℕ) (now : Option (List ℕ)) : Type 0 where
  pub front : List ℕ
  pub behind : List ℕ
  pub front_read : read ≡ front ++ behind
  pub output : List ℕ
  pub script : Script game count log front output
  pub shown : List ℕ
  pub missing : List ℕ
  pub front_shown : output ≡ shown ++ missing
  pub written : Appends start now shown

-- taking these bytes brings a script further: what was read and answered before them is so with them
abbrev pub GoesOn : List ℕ → Running → Running → Option (List ℕ) → Option (List ℕ) → Type 0
GoesOn bytes old new held held_after = (game : Game) (count : ℕ) (log start : Option (List ℕ)) (seen : List ℕ) → Shows game count log start seen old held
    → Shows game count log start (seen ++ bytes) new held_after

-- taking them failed: of what is to be written with them a beginning is written
abbrev pub BreaksOff : List ℕ → Running → Option (List ℕ) → Option (List ℕ) → Type 0
BreaksOff bytes old held held_after = (game : Game) (count : ℕ) (log start : Option (List ℕ)) (seen : List ℕ) → Shows game count log start seen old held
    → Begins game count log start (seen ++ bytes) held_after
