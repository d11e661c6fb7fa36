-- A text reads as one thing, and an answer has one text.
use Rattle.std.specs.Prelude.{◌≡◌, ℕ, List, ◌∷◌, ◌++◌, Result}
use Rattle.game_def.specs.Game.{Game, IsGame}
use Rattle.betting.specs.declared.action.Action.{Action}
use Rattle.betting.specs.Text.{action_text}
use Rattle.betting.specs.Turns.{Turn}
use Rattle.matchstate.specs.ActionText.{IsActionText}
use Rattle.matchstate.specs.View.{View}
use Rattle.matchstate.specs.Line.{ReadsAs, line_text}
use Rattle.matchstate.specs.Answer.{IsAnswer, AnswerReadsAs}
use Rattle.matchstate.specs.declared.line_fault.LineFault.{LineFault}

-- a text reads as a line in one way: as one view or with one fault
abbrev pub LinesReadOneWay : Type 0
LinesReadOneWay = (game : Game) (bytes : List ℕ) (first second : Result View LineFault) → IsGame game
    → ReadsAs game bytes first → ReadsAs game bytes second → first ≡ second

-- and as an answer in one way: as one view and action, or with one fault
abbrev pub AnswersReadOneWay : Type 0
AnswersReadOneWay = (game : Game) (bytes : List ℕ) (first second : Result (View × Action) LineFault) → IsGame game
    → AnswerReadsAs game bytes first → AnswerReadsAs game bytes second → first ≡ second

-- a text says one action
abbrev pub ActionTextsSayOneAction : Type 0
ActionTextsSayOneAction = (game : Game) (past : List Turn) (bytes : List ℕ) (first second : Action) → IsActionText game past bytes first → IsActionText game past bytes second → first ≡ second

-- an answer is the text of its view, a colon and the text of its action
abbrev pub AnswersAreTexts : Type 0
AnswersAreTexts = (game : Game) (bytes : List ℕ) (view : View) (action : Action) → IsAnswer game bytes view action
    → bytes ≡ line_text view ++ 58 ∷ action_text game action
