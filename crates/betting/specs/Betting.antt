-- The betting of one hand as one value.
use Rattle.std.specs.Prelude.{List}
use Rattle.game_def.specs.Game.{Game}
use Rattle.betting.specs.declared.action.Action.{Action}
use Rattle.betting.specs.Turns.{Turn}
use Rattle.betting.specs.Rounds.{turns}

-- a game and the actions so far, newest first
pub record Betting : Type 0 where
  pub game : Game
  pub past : List Action

-- the actions with those who took them
abbrev pub history : Betting → List Turn
history betting = turns betting.game betting.past
