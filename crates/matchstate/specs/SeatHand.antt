-- The newest hand as a seat has it.
use Rattle.std.specs.Prelude.{◌≡◌, ℕ, ◌<◌, ◌≤◌, List, Some}
use Rattle.game_def.specs.Game.{Game}
use Rattle.card_core.specs.Deal.{IsDeal}
use Rattle.slot_log.specs.Hand.{Hand}
use Rattle.matchstate.specs.View.{View, seat_view, view_of, last_hand}
use Rattle.matchstate.specs.declared.seating.SeatHand.{SeatHand}

-- what the player at the position sees of a hand
abbrev pub view_in_hand : Game → SeatHand → View
view_in_hand game at = view_of game at.position at.hand (record { deal = at.deal.now; past = at.play.now.past })

-- it is the hand of which the seat has a view
pub record IsHandOf (game : Game) (hands : List Hand) (seat : ℕ) (at : SeatHand) : Type 0 where
  pub current : seat_view game hands seat ≡ Some (view_in_hand game at)
  pub same_game : at.play.now.game ≡ game
  pub below : at.position < game.players
  pub number : at.hand ≤ last_hand
  pub dealt : IsDeal game.players at.deal.now
