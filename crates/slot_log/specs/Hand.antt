-- Hands and matches as the dealer sees them.
use Rattle.std.specs.Prelude.{ℕ, List}
use Rattle.game_def.specs.Game.{Game}
use Rattle.betting.specs.declared.action.Action.{Action}

-- a hand that was dealt: its cards, and its actions so far, newest first
pub record Hand : Type 0 where
  pub deal : List ℕ
  pub past : List Action

-- a match: its game, how many hands it has, those dealt so far (newest first), and for how many more there
-- is room without further memory
pub record Match : Type 0 where
  pub game : Game
  pub count : ℕ
  pub hands : List Hand
  pub room : ℕ
