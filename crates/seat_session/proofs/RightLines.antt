-- The line that a seat has now and an allowed action are that act.
use Rattle.std.proofs.Common.{◌≡◌, ℕ, List, [], ◌∷◌, ◌++◌, length, Option, Some, None, refl, sym, ap, subst}
use Rattle.game_def.specs.Game.{Game, IsGame}
use Rattle.betting.specs.declared.action.Action.{Action}
use Rattle.betting.specs.Rounds.{turns}
use Rattle.betting.specs.Legal.{CanAct}
use Rattle.betting.specs.Text.{action_text}
use Rattle.slot_log.specs.Hand.{Hand}
use Rattle.matchstate.specs.Answer.{IsAnswer}
use Rattle.matchstate.specs.Line.{line_text}
use Rattle.matchstate.specs.View.{View, IsView, view_of, position_of, seat_view}
use Rattle.seat_session.proofs.AtTable.{echoes_now}
use Rattle.matchstate.specs.RightTexts.{TextsAreAnswers}
use Rattle.seat_session.specs.RightLines.{RightLinesAct}

-- a seat's view is of the game that is played
game_of_view : (game : Game) (hands : List Hand) (seat : ℕ) (view : View) → seat_view game hands seat ≡ Some view → view.game ≡ game
game_of_view game [] seat view current = absurd (let none : ◌≡◌ {A = Option View} None (Some view) = current in cc)
game_of_view game (newest ∷ earlier) seat view current =
    let same : view_of game (position_of game.players (length earlier) seat) (length earlier) newest ≡ view = cc in
    ap (λ (v : View). v.game) (sym same)

answer_of_view : TextsAreAnswers → (game : Game) (view : View) (action : Action) → view.game ≡ game → IsGame game → IsView view → CanAct game (turns game view.past) action
    → IsAnswer game (line_text view ++ 58 ∷ action_text game action) view action
answer_of_view law game view action own is sight can =
    let says : IsGame view.game → CanAct view.game (turns view.game view.past) action → IsAnswer view.game (line_text view ++ 58 ∷ action_text view.game action) view action =
    λ is can. law view action is sight can in
    subst (λ (g : Game). IsGame g → CanAct g (turns g view.past) action → IsAnswer g (line_text view ++ 58 ∷ action_text g action) view action) own says is can

pub right_lines_act : TextsAreAnswers → RightLinesAct
right_lines_act law game hands seat view action is sight current turn can =
    let reads = answer_of_view law game view action (game_of_view game hands seat view current) is sight can in
    record {
      view = view;
      echoes = echoes_now game hands seat (line_text view ++ 58 ∷ action_text game action) view action reads current;
      turn = turn;
      allowed = can;
      same_hand = refl;
      next_index = refl;
    }
