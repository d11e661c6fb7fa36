-- What is done for a player who is away.
use Rattle.std.specs.Prelude.{nat_lt, if◌then◌else◌, List, Some, None}
use Rattle.game_def.specs.Game.{Game}
use Rattle.betting.specs.declared.action.Action.{Action}
use Rattle.betting.specs.declared.action.Action.TheVariants.{Fold, Call}
use Rattle.betting.specs.Turns.{Turn, max_spent, spent}
use Rattle.betting.specs.Rounds.{to_act}

-- the player to act folds where he has put in less than the greatest amount of anyone, and else calls
abbrev pub away_action : Game → List Turn → Action
away_action game past =
    elim (to_act game past) [ None ↦ Call | Some position ↦ if nat_lt (spent game past position) (max_spent game past) then Fold else Call ]
