-- Scripts of the command `hand`, and what it writes for them.
use Rattle.std.specs.Prelude.{◌≡◌, ℕ, List, [], ◌∷◌, ◌++◌, reverse, Option}
use Rattle.std.specs.List.{AllByRecursion, flat_map}
use Rattle.game_def.specs.Game.{Game}
pub use Rattle.game_def.specs.Text.{HasNoFeed}
use Rattle.slot_log.specs.Dealer.{hands_of}
use Rattle.streamed.specs.Answer.{Says, answer}
use Rattle.streamed.specs.Told.{commands_of, names_of}
use Rattle.streamed.specs.declared.script_line.ScriptLine.{ScriptLine}

-- the whole lines of a script, newest first, each ended by a line feed, and a rest without one
pub record AreLines (bytes : List ℕ) (lines : List (List ℕ)) (rest : List ℕ) : Type 0 where
  pub joined : bytes ≡ flat_map (λ line. line ++ 10 ∷ []) (reverse lines) ++ rest
  pub whole : AllByRecursion HasNoFeed lines
  pub partial : HasNoFeed rest

-- what each line says after those before it, newest first
abbrev pub SayInTurn : Game → ℕ → List (List ℕ) → List ScriptLine → Type 0
SayInTurn game count [] [] = Unit {0}
SayInTurn game count [] (said ∷ before) = ⊥
SayInTurn game count (line ∷ earlier) [] = ⊥
SayInTurn game count (line ∷ earlier) (said ∷ before) =
    SayInTurn game count earlier before × Says game (names_of before) (hands_of game count (commands_of before)) line said

-- the answers to all lines, oldest first
abbrev pub answers : Game → ℕ → Option (List ℕ) → List ScriptLine → List ℕ
answers game count log [] = []
answers game count log (said ∷ before) = answers game count log before ++ answer game count log before said

-- what is written for a script: the answer to each of its whole lines; a rest without a line feed isn't read. With
-- a word for the game the log is printed too
pub record Script (game : Game) (count : ℕ) (log : Option (List ℕ)) (bytes output : List ℕ) : Type 0 where
  pub lines : List (List ℕ)
  pub rest : List ℕ
  pub says : List ScriptLine
  pub are_lines : AreLines bytes lines rest
  pub say_in_turn : SayInTurn game count lines says
  pub written : output ≡ answers game count log says
