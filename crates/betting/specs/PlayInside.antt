-- What the fields of a play keep.
use Rattle.std.specs.Prelude.{◌≡◌, ◌≤◌, List, length, take, reverse}
use Rattle.game_def.specs.Game.{IsGame}
use Rattle.betting.specs.declared.action.Action.{Action}
use Rattle.betting.specs.declared.play.Play.TheInside.{Inside}
use Rattle.betting.specs.Rounds.{turns}
use Rattle.betting.specs.Legal.{Legal}
use Rattle.betting.specs.Text.{slash_counts}
use Rattle.betting.specs.Betting.{Betting}
use Rattle.betting.specs.TotalsInside.{IsTotals}

-- the actions so far, newest first
abbrev pub past_of : Inside → List Action
past_of d = reverse (take d.count d.actions)

abbrev pub betting_of : Inside → Betting
betting_of d = record { game = d.game; past = past_of d }

-- the slashes and the totals are those of the actions so far
pub record IsKept (d : Inside) : Type 0 where
  pub game : IsGame d.game
  pub places : length d.actions ≡ 256
  pub slash_places : length d.slashes ≡ 256
  pub count : d.count ≤ 256
  pub legal : Legal d.game (past_of d)
  pub slashes : take d.count d.slashes ≡ reverse (slash_counts d.game (past_of d))
  pub totals : IsTotals d.game (turns d.game (past_of d)) d.totals
