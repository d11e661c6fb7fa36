-- The texts that are answers.
use Rattle.std.specs.Prelude.{◌∷◌, ◌++◌}
use Rattle.game_def.specs.Game.{IsGame}
use Rattle.betting.specs.declared.action.Action.{Action}
use Rattle.betting.specs.Rounds.{turns}
use Rattle.betting.specs.Legal.{CanAct}
use Rattle.betting.specs.Text.{action_text}
use Rattle.matchstate.specs.View.{View, IsView}
use Rattle.matchstate.specs.Line.{line_text}
use Rattle.matchstate.specs.Answer.{IsAnswer}

-- the line of what some viewer could see, a colon and the text of an allowed action are an answer that says them
abbrev pub TextsAreAnswers : Type 0
TextsAreAnswers = (view : View) (action : Action) → IsGame view.game → IsView view → CanAct view.game (turns view.game view.past) action
    → IsAnswer view.game (line_text view ++ 58 ∷ action_text view.game action) view action
