-- Hands as the commands that make them.
use Rattle.std.specs.Prelude.{◌≡◌, ℕ, ◌+◌, ◌*◌, ◌≤◌, true, List, [], ◌∷◌, ◌++◌, length}
use Rattle.std.specs.List.{AllByRecursion}
use Rattle.game_def.specs.Game.{Game}
use Rattle.betting.specs.declared.action.Action.{Action}
use Rattle.betting.specs.Legal.{Legal}
use Rattle.slot_log.specs.Hand.{Hand}
use Rattle.slot_log.specs.Dealer.{is_finished}
use Rattle.slot_log.specs.declared.command.Command.{Command}
use Rattle.slot_log.specs.declared.command.Command.TheVariants.{Deal, Act, Away}

-- a hand's actions as commands, each with the number of those before it; newest first
abbrev pub acts_of : ℕ → List Action → List Command
acts_of hand [] = []
acts_of hand (action ∷ past) = Act hand (length past) action ∷ acts_of hand past

-- the commands that deal and play hands, numbered from 0 in the order of dealing; all newest first
abbrev pub commands_of : List Hand → List Command
commands_of [] = []
commands_of (hand ∷ earlier) = acts_of (length earlier) hand.past ++ Deal (length earlier) hand.deal ∷ commands_of earlier

-- the cards of each deal among commands
abbrev pub deals_of : List Command → List (List ℕ)
deals_of [] = []
deals_of (Deal hand deal ∷ earlier) = deal ∷ deals_of earlier
deals_of (Act hand index action ∷ earlier) = deals_of earlier
deals_of (Away hand index ∷ earlier) = deals_of earlier

-- a hand of this game: two cards for each player and five for the board, and each action was allowed
pub record IsLegalHand (game : Game) (hand : Hand) : Type 0 where
  pub card_count : length hand.deal ≡ 2 * game.players + 5
  pub legal : Legal game hand.past

-- all hands but the newest are finished
abbrev pub AreEarlierFinished : Game → List Hand → Type 0
AreEarlierFinished game [] = Unit {0}
AreEarlierFinished game (newest ∷ earlier) = AllByRecursion (λ hand. is_finished game hand ≡ true) earlier

-- the hands of some match: each legal, all but the newest finished, and no more than the match has
pub record AreHands (game : Game) (count : ℕ) (hands : List Hand) : Type 0 where
  pub legal : AllByRecursion (IsLegalHand game) hands
  pub earlier_finished : AreEarlierFinished game hands
  pub within : length hands ≤ count
