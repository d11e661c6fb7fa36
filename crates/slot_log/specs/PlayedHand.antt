-- A hand with its betting, as the table keeps it.
use Rattle.std.specs.Prelude.{◌≡◌}
use Rattle.game_def.specs.Game.{Game}
use Rattle.card_core.specs.Deal.{IsDeal}
use Rattle.betting.specs.Legal.{Legal}
use Rattle.slot_log.specs.Hand.{Hand}
use Rattle.slot_log.specs.declared.played_hand.PlayedHand.{PlayedHand}

abbrev pub hand_of : PlayedHand → Hand
hand_of hand = record { deal = hand.deal; past = hand.play.past }

-- a hand of this game
pub record IsOf (game : Game) (hand : PlayedHand) : Type 0 where
  pub same_game : hand.play.game ≡ game
  pub dealt : IsDeal game.players hand.deal
  pub legal : Legal game hand.play.past
