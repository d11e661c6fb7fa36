-- Betting texts, action by action, and what stands behind a beginning.
use Rattle.std.proofs.Common.{◌≡◌, ℕ, ◌+◌, ◌<◌, List, [], ◌∷◌, ◌++◌, reverse, length, take, get_or, refl, ap, ◌∙◌}
use Rattle.std.proofs.lemmas.List.{reverse-append, take_more}
use Rattle.game_def.specs.Game.{Game}
use Rattle.betting.specs.declared.action.Action.{Action}
use Rattle.betting.specs.Legal.{Legal}
use Rattle.betting.specs.Text.{text, action_text}
use Rattle.matchstate.specs.Reading.{slashes_after}

pub text_none : (game : Game) → text game [] ≡ []
unfolding text
text_none game = refl

pub text_next : (game : Game) (past : List Action) (action : Action) → text game (action ∷ past) ≡ text game past ++ action_text game action ++ slashes_after game past action
unfolding text
text_next game past action = refl

-- what stands before is legal too
pub Legal-before : (game : Game) (newer past : List Action) → Legal game (newer ++ past) → Legal game past
Legal-before game [] past legal = legal
Legal-before game (action ∷ newer) past legal = Legal-before game newer past legal.0

pub reverse_take_more : (actions : List Action) (i : ℕ) (d : Action) → i < length actions → reverse (take (i + 1) actions) ≡ get_or actions i d ∷ reverse (take i actions)
reverse_take_more actions i d below =
    ap reverse (take_more actions i d below) ∙ reverse-append (take i actions) (get_or actions i d ∷ [])
