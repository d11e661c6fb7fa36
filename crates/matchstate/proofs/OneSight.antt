-- A line that shows a hand's position, number and actions is the line of what a seat sees of it just where it shows the same cards.
use Rattle.std.proofs.Common.{◌≡◌, ℕ, ◌<◌, ◌≤◌, List, refl, sym, ap, ◌∙◌, subst}
use Rattle.game_def.specs.Game.{Game, IsGame}
use Rattle.betting.specs.Legal.{Legal}
use Rattle.card_core.specs.Deal.{IsDeal}
use Rattle.matchstate.specs.Cards.{all_cards}
use Rattle.matchstate.specs.Line.{IsLine}
use Rattle.matchstate.specs.SeatHand.{view_in_hand}
use Rattle.matchstate.specs.View.{View, IsView, last_hand}
use Rattle.matchstate.specs.declared.seating.SeatHand.{SeatHand}
use Rattle.matchstate.proofs.OneLine.{lines_are_texts, lines_say_one_view}
use Rattle.matchstate.proofs.SameView.{same_view}

-- what a seat sees of a hand some viewer could see
pub seat_sight : (game : Game) (at : SeatHand) → at.position < game.players → at.hand ≤ last_hand → IsDeal game.players at.deal.now → Legal game at.play.now.past → IsView (view_in_hand game at)
seat_sight game at below number dealt legal = record {
  seated = below;
  numbered = number;
  legal = legal;
  seen = (at.deal.now, record { dealt = dealt; hole_cards = refl; board_cards = refl });
}

pub line_of_seat : (game : Game) (bytes : List ℕ) (own seat : View) → IsLine game bytes own → IsView seat → seat.game ≡ game → own.position ≡ seat.position → own.hand ≡ seat.hand → own.past ≡ seat.past
    → all_cards own.holes own.boards ≡ all_cards seat.holes seat.boards → IsLine game bytes seat
line_of_seat game bytes own seat line sight games positions hands pasts cards =
    subst (IsLine game bytes) (same_view own seat (lines_are_texts game bytes own line).0 sight (line.same_game ∙ sym games) positions hands pasts cards) line

pub cards_of_seat : (game : Game) (bytes : List ℕ) (own seat : View) → IsGame game → IsLine game bytes own → IsLine game bytes seat → all_cards own.holes own.boards ≡ all_cards seat.holes seat.boards
cards_of_seat game bytes own seat is line other = ap (λ (v : View). all_cards v.holes v.boards) (lines_say_one_view game bytes own seat is line other)
