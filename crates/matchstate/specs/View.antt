-- What a seat may see of a match.
use Rattle.std.specs.Prelude.{ℕ, ◌+◌, ◌-◌, ◌%◌, ◌<◌, ◌≤◌, Bool, not, ◌==◌, ◌&&◌, ◌||◌, nat_le, List, [], ◌∷◌, length, take, Option, Some, None}
use Rattle.game_def.specs.Game.{Game}
use Rattle.betting.specs.declared.action.Action.{Action}
use Rattle.betting.specs.Turns.{folded, unfolded_count}
use Rattle.betting.specs.Rounds.{over, current_round, turns}
use Rattle.betting.specs.Legal.{Legal}
use Rattle.slot_log.specs.Hand.{Hand}
use Rattle.matchstate.specs.Cards.{holes_seen, boards_of, AreSeen}

-- what a line shows: the position that it is for, the hand's number, the actions so far (newest first), the
-- hole cards of each position, none where they aren't seen, and the board cards of each later round reached
pub record View : Type 0 where
  pub game : Game
  pub position : ℕ
  pub hand : ℕ
  pub past : List Action
  pub holes : List (List ℕ)
  pub boards : List (List ℕ)

-- a hand has come to a showdown where it is over and two or more players haven't folded
abbrev pub is_showdown : Game → List Action → Bool
is_showdown game past = over game (turns game past) && nat_le 2 (unfolded_count game (turns game past))

-- whose hole cards a viewer sees: always his own, at a showdown those of all who haven't folded, no others
abbrev pub sees : Game → List Action → ℕ → ℕ → Bool
sees game past viewer position = position == viewer || (is_showdown game past && not (folded (turns game past) position))

-- for how many later rounds the board is seen: for those that have begun
abbrev pub rounds_seen : Game → List Action → ℕ
rounds_seen game past = current_round game (turns game past)

-- what the player at a position sees of a hand
abbrev pub view_of : Game → ℕ → ℕ → Hand → View
view_of game position number hand = record {
  game = game;
  position = position;
  hand = number;
  past = hand.past;
  holes = holes_seen game.players (sees game hand.past position) hand.deal;
  boards = take (rounds_seen game hand.past) (boards_of hand.deal);
}

-- who sits at a position: with each hand the positions move on by one seat
abbrev pub seat_of : ℕ → ℕ → ℕ → ℕ
seat_of players hand position = (position + hand) % players

-- where a seat's player sits: at the position whose seat it is
abbrev pub position_of : ℕ → ℕ → ℕ → ℕ
position_of players hand seat = (seat + (players - hand % players)) % players

-- what a seat sees of the hands dealt so far, newest first: the newest hand, and nothing before the first deal
abbrev pub seat_view : Game → List Hand → ℕ → Option View
seat_view game [] seat = None
seat_view game (newest ∷ earlier) seat =
    Some (view_of game (position_of game.players (length earlier) seat) (length earlier) newest)

-- the last of the numbers of hands
abbrev pub last_hand : ℕ
last_hand = 9999

-- what some viewer could see of some hand: a legal list of actions, and cards that are seen of some deal
pub record IsView (view : View) : Type 0 where
  pub seated : view.position < view.game.players
  pub numbered : view.hand ≤ last_hand
  pub legal : Legal view.game view.past
  pub seen : AreSeen view.game.players (sees view.game view.past view.position) (rounds_seen view.game view.past) view.holes view.boards
