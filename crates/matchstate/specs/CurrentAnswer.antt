-- An answer to the line that a seat has now.
use Rattle.std.specs.Prelude.{◌≡◌, ℕ, List, Some}
use Rattle.game_def.specs.Game.{Game}
use Rattle.slot_log.specs.Hand.{Hand}
use Rattle.matchstate.specs.Answer.{IsAnswer}
use Rattle.matchstate.specs.View.{View, seat_view}
use Rattle.matchstate.specs.declared.current_answer.CurrentAnswer.{CurrentAnswer}

-- the text is an answer whose line says what the seat sees now
pub record AnswersNow (game : Game) (hands : List Hand) (seat : ℕ) (bytes : List ℕ) (answer : CurrentAnswer) : Type 0 where
  pub view : View
  pub current : seat_view game hands seat ≡ Some view
  pub is_answer : IsAnswer game bytes view answer.action
  pub same_hand : answer.hand ≡ view.hand
  pub same_position : answer.position ≡ view.position
  pub same_play : answer.play.now ≡ record { game = game; past = view.past }
