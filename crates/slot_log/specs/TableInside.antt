-- What a table's fields keep, and the match that they hold.
use Rattle.std.specs.Prelude.{◌≡◌, ◌-◌, ◌≤◌, ◌++◌, true, false, List, [], ◌∷◌, length, IfNone, map, reverse, vec_len, vec_capacity, option_to_list}
use Rattle.std.specs.List.{AllByRecursion}
use Rattle.game_def.specs.Game.{Game}
use Rattle.betting.specs.declared.action.Action.{Action}
use Rattle.betting.specs.Rounds.{turns}
use Rattle.betting.specs.Legal.{CanAct}
use Rattle.slot_log.specs.Hand.{Hand, Match}
use Rattle.slot_log.specs.Dealer.{is_finished}
use Rattle.slot_log.specs.PlayedHand.{hand_of, IsOf}
use Rattle.slot_log.specs.declared.table.Table.TheInside.{Inside}

-- all hands, newest first
abbrev pub hands_in : Inside → List Hand
hands_in t = map hand_of (option_to_list t.newest) ++ reverse (map hand_of t.earlier.items)

abbrev pub match_of : Inside → Match
match_of t = record { game = t.game; count = t.count; hands = hands_in t; room = vec_capacity t.earlier - vec_len t.earlier }

-- all hands are of the game, all but the newest are finished, there aren't more than the match has, and
-- where there is no newest there is none at all
pub record IsKept (t : Inside) : Type 0 where
  pub least : 1 ≤ t.count
  pub most : t.count ≤ 10000
  pub within : length (hands_in t) ≤ t.count
  pub earlier_hands : AllByRecursion (IsOf t.game) t.earlier.items
  pub newest_hand : AllByRecursion (IsOf t.game) (option_to_list t.newest)
  pub begun : IfNone t.newest (t.earlier.items ≡ [])
  pub finished : AllByRecursion (λ hand. is_finished t.game (hand_of hand) ≡ true) t.earlier.items

-- the newest hand runs and allows the action
abbrev pub NewestAllows : Game → List Hand → Action → Type 0
NewestAllows game [] action = ⊥
NewestAllows game (newest ∷ earlier) action = (is_finished game newest ≡ false) × CanAct game (turns game newest.past) action
