-- The line of a view, a colon and the text of an allowed action are an answer.
use Rattle.std.proofs.Common.{ℕ, ◌-◌, List, [], ◌∷◌, ◌++◌, replicate, refl, subst}
use Rattle.game_def.specs.Game.{Game, IsGame}
use Rattle.betting.specs.declared.action.Action.{Action}
use Rattle.betting.specs.Rounds.{turns, current_round}
use Rattle.betting.specs.Legal.{Legal, CanAct}
use Rattle.betting.specs.Text.{text, action_text}
use Rattle.matchstate.specs.Line.{IsField, line_text}
use Rattle.matchstate.proofs.NoColon.{no_colon_in_text}
use Rattle.matchstate.proofs.OneLine.{texts_are_lines}
use Rattle.matchstate.proofs.Texts.{text_next}
use Rattle.matchstate.proofs.Words.{action_reads}
use Rattle.matchstate.specs.RightTexts.{TextsAreAnswers}

first_part : (xs ys : List ℕ) → IsField (xs ++ ys) → IsField xs
first_part [] ys field = tt
first_part (x ∷ xs) ys field = (field.0, first_part xs ys field.1)

later_part : (xs ys : List ℕ) → IsField (xs ++ ys) → IsField ys
later_part [] ys field = field
later_part (x ∷ xs) ys field = later_part xs ys field.1

-- the text of an allowed action is part of the betting text that it leads to
action_field : (game : Game) (past : List Action) (action : Action) → IsGame game → Legal game past → CanAct game (turns game past) action → IsField (action_text game action)
action_field game past action is legal can =
    let whole = subst IsField (text_next game past action) (no_colon_in_text game (action ∷ past) is (legal, can)) in
    let slashes = replicate (current_round game (turns game (action ∷ past)) - current_round game (turns game past)) 47 in
    later_part (text game past) (action_text game action) (first_part (text game past ++ action_text game action) slashes whole)

pub texts_are_answers : TextsAreAnswers
texts_are_answers view action is sight can = record {
  line = line_text view;
  field = action_text view.game action;
  cut = record { whole = refl; last = action_field view.game view.past action is sight.legal can };
  line_is = texts_are_lines view is sight;
  action_is = action_reads view.game (turns view.game view.past) action is can;
}
