-- A player's answer: the server's line, then : and what the player does.
use Rattle.std.specs.Prelude.{◌≡◌, ℕ, List, ◌∷◌, ◌++◌, Result, Ok, Err}
use Rattle.game_def.specs.Game.{Game}
use Rattle.betting.specs.declared.action.Action.{Action}
use Rattle.betting.specs.Rounds.{turns}
use Rattle.matchstate.specs.View.{View}
use Rattle.matchstate.specs.Line.{Fields, HasFields, IsField, IsLine, ReadsAs}
use Rattle.matchstate.specs.ActionText.{IsActionText}
use Rattle.matchstate.specs.declared.line_fault.LineFault.{LineFault}
use Rattle.matchstate.specs.declared.line_fault.LineFault.TheVariants.{NotMatchstate, BadNumber, BadBetting, BadCards, BadAction}

-- the text is a line, a : and a last field
pub record IsCut (bytes line field : List ℕ) : Type 0 where
  pub whole : bytes ≡ line ++ 58 ∷ field
  pub last : IsField field

-- the field is the text of the action of the player to act after the view's actions
abbrev pub SaysAction : Game → View → List ℕ → Action → Type 0
SaysAction game view field action = IsActionText game (turns game view.past) field action

-- an answer, the view that its line says and the action
pub record IsAnswer (game : Game) (bytes : List ℕ) (view : View) (action : Action) : Type 0 where
  pub line : List ℕ
  pub field : List ℕ
  pub cut : IsCut bytes line field
  pub line_is : IsLine game line view
  pub action_is : SaysAction game view field action

-- it is the answer of some view and action
abbrev pub IsSomeAnswer : Game → List ℕ → Type 0
IsSomeAnswer game bytes = (view : View) × (action : Action) × IsAnswer game bytes view action

-- the text is a line of this fault, a : and a last field
abbrev pub HasFault : Game → List ℕ → LineFault → Type 0
HasFault game bytes fault = (line : List ℕ) × (field : List ℕ) × IsCut bytes line field × ReadsAs game line (Err fault)

-- what a text reads as: the view and the action of an answer, or the first of its faults, that of the line before that of the action
abbrev pub AnswerReadsAs : Game → List ℕ → Result (View × Action) LineFault → Type 0
AnswerReadsAs game bytes (Ok answer) = IsAnswer game bytes answer.0 answer.1
AnswerReadsAs game bytes (Err NotMatchstate) =
    (line field : List ℕ) (fields : Fields) → IsCut bytes line field → ¬ (HasFields line fields)
AnswerReadsAs game bytes (Err BadNumber) = HasFault game bytes BadNumber
AnswerReadsAs game bytes (Err BadBetting) = HasFault game bytes BadBetting
AnswerReadsAs game bytes (Err BadCards) = HasFault game bytes BadCards
AnswerReadsAs game bytes (Err BadAction) =
    (line : List ℕ) × (field : List ℕ) × IsCut bytes line field
    × ((view : View) × IsLine game line view × ((action : Action) → ¬ (SaysAction game view field action)))
