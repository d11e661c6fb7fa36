-- What the players had put in, and who had folded, when a street was dealt.
use Rattle.std.specs.Prelude.{ℕ, nat_le, if◌then◌else◌, List, [], ◌∷◌}
use Rattle.game_def.specs.Game.{Game}
use Rattle.betting.specs.declared.action.Action.{Action}
use Rattle.betting.specs.Rounds.{current_round, turns}

-- the actions before a street, newest first: the newest is left out while the street had begun without it
unfoldable pub before_street : Game → ℕ → List Action → List Action
before_street game street [] = []
before_street game street (action ∷ past) =
    if nat_le street (current_round game (turns game past)) then before_street game street past else action ∷ past
