-- What is written for a script is told by the script.
use Rattle.std.specs.Prelude.{◌≡◌, ℕ, List, Option}
use Rattle.game_def.specs.Game.{Game}
use Rattle.streamed.specs.Script.{Script}

-- a script has one output
abbrev pub OneOutput : Type 0
OneOutput = (game : Game) (count : ℕ) (log : Option (List ℕ)) (bytes output other : List ℕ)
    → Script game count log bytes output → Script game count log bytes other → output ≡ other
