-- The lines that are acts.
use Rattle.std.specs.Prelude.{◌≡◌, ℕ, List, ◌∷◌, ◌++◌, length, Some, Ok}
use Rattle.game_def.specs.Game.{Game, IsGame}
use Rattle.betting.specs.declared.action.Action.{Action}
use Rattle.betting.specs.Rounds.{turns}
use Rattle.betting.specs.Legal.{CanAct}
use Rattle.betting.specs.Text.{action_text}
use Rattle.slot_log.specs.Hand.{Hand}
use Rattle.slot_log.specs.declared.command.Command.TheVariants.{Act as Acts}
use Rattle.matchstate.specs.View.{View, IsView, seat_view}
use Rattle.matchstate.specs.Line.{line_text}
use Rattle.seat_session.specs.Saying.{IsTurn, Plays}
use Rattle.seat_session.specs.declared.said.Said.TheVariants.{Act}

-- the line that a seat has now, a colon and the text of an allowed action, from the seat that is to act, are that act
abbrev pub RightLinesAct : Type 0
RightLinesAct = (game : Game) (hands : List Hand) (seat : ℕ) (view : View) (action : Action) → IsGame game → IsView view
    → seat_view game hands seat ≡ Some view → IsTurn game view → CanAct game (turns game view.past) action
    → Plays game hands seat (line_text view ++ 58 ∷ action_text game action) (Ok (Act (Acts view.hand (length view.past) action)))
