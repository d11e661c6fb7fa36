-- What a hand pays: the pots go to the best five of each player's hole cards and the board.
use Rattle.std.specs.Prelude.{ℕ, Bool, List, ◌++◌, map, ℤ, pos, ◌+ℤ◌, ◌≤ℤ◌, neg_ℤ, [], ◌∷◌, length, slice_index_or}
use Rattle.std.specs.List.{range_with_len}
use Rattle.game_def.specs.Game.{Game}
use Rattle.card_core.specs.Deal.{hole_of, board_of}
use Rattle.betting.specs.declared.action.Action.{Action}
use Rattle.betting.specs.Turns.{spent, folded}
use Rattle.betting.specs.Rounds.{turns}
use Rattle.hand_rank.specs.Worth.{Worth}
use Rattle.side_pots.specs.Pots.{payoffs}
use Rattle.slot_log.specs.Hand.{Hand}
use Rattle.matchstate.specs.View.{position_of}
use Rattle.match_log.specs.BestFive.{best_worth}

-- a player's seven cards: his hole cards and the board
abbrev pub seven_of : List ℕ → ℕ → List ℕ
seven_of deal position = hole_of deal position ++ board_of deal

-- what each position's seven cards are worth
unfoldable pub values_of : ℕ → List ℕ → List Worth
values_of players deal = map (λ position. best_worth (seven_of deal position)) (range_with_len 0 players)

-- what each position has put in
unfoldable pub amounts_of : Game → List Action → List ℕ
amounts_of game past = map (spent game (turns game past)) (range_with_len 0 game.players)

-- which positions have folded
unfoldable pub folds_of : Game → List Action → List Bool
folds_of game past = map (folded (turns game past)) (range_with_len 0 game.players)

-- what each position wins or loses in a hand, in whole chips
unfoldable pub payoffs_of : Game → Hand → List ℤ
payoffs_of game hand = payoffs (amounts_of game hand.past) (folds_of game hand.past) (values_of game.players hand.deal)

-- what a seat has won and lost in all these hands, newest first
unfoldable pub total_of : Game → List Hand → ℕ → ℤ
total_of game [] seat = pos 0
total_of game (hand ∷ earlier) seat =
    total_of game earlier seat +ℤ slice_index_or (payoffs_of game hand) (position_of game.players (length earlier) seat) (pos 0)

-- the totals in seat order
unfoldable pub totals_of : Game → List Hand → List ℤ
totals_of game hands = map (total_of game hands) (range_with_len 0 game.players)

-- no payoff of a hand is further from 0: ten stacks of the most chips
abbrev pub most_payoff : ℕ
most_payoff = 21474836470

-- within so much of 0
pub record IsWithin (most : ℕ) (amount : ℤ) : Type 0 where
  pub least : neg_ℤ (pos most) ≤ℤ amount
  pub greatest : amount ≤ℤ pos most
