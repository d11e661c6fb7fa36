-- The betting text of the ACPC protocol.
use Rattle.std.specs.Prelude.{ℕ, ◌-◌, List, [], ◌∷◌, ◌++◌, Some, None, codes, decimal, replicate}
use Rattle.game_def.specs.Game.{Game}
use Rattle.betting.specs.declared.action.Action.{Action}
use Rattle.betting.specs.declared.action.Action.TheVariants.{Fold, Call, Raise}
use Rattle.betting.specs.Rounds.{current_round, turns}

-- f, c and r, the last with its amount in a no-limit game
unfoldable pub action_text : Game → Action → List ℕ
action_text game Fold = codes "f"
action_text game Call = codes "c"
action_text game (Raise amount) = elim game.raise_sizes [ None ↦ codes "r" ++ decimal amount | Some _ ↦ codes "r" ]

-- how many slashes stand behind an action's text: one for each further round that the betting text then shows
abbrev pub slash_count : Game → List Action → Action → ℕ
slash_count game past action = current_round game (turns game (action ∷ past)) - current_round game (turns game past)

-- those of each action; newest first
unfoldable pub slash_counts : Game → List Action → List ℕ
slash_counts game [] = []
slash_counts game (action ∷ past) = slash_count game past action ∷ slash_counts game past

-- each action's text and the slashes behind it
unfoldable pub text : Game → List Action → List ℕ
text game [] = []
text game (action ∷ past) = text game past ++ action_text game action ++ replicate (slash_count game past action) 47
