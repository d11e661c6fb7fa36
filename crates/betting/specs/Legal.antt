-- Which actions are allowed, and why others aren't.
use Rattle.std.specs.Prelude.{◌≡◌, ℕ, ◌+◌, ◌<◌, ◌≤◌, ◌↔◌, min, nat_lt, nat_le, if◌then◌else◌, List, [], ◌∷◌, Option, Some, None, slice_index}
use Rattle.game_def.specs.Game.{Game, stack_of, raise_size_of}
use Rattle.betting.specs.declared.action.Action.{Action}
use Rattle.betting.specs.declared.action.Action.TheVariants.{Fold, Call, Raise}
use Rattle.betting.specs.declared.fault.ActFault.{ActFault}
use Rattle.betting.specs.declared.fault.ActFault.TheVariants.{Finished, FoldNotFacing, TooManyRaises, NobodyToCall, RaiseTooSmall, RaiseTooLarge, RoundFull}
use Rattle.betting.specs.Turns.{Turn, max_spent, spent, live_count, actions_in, raises_in, min_to}
use Rattle.betting.specs.Rounds.{current_round, to_act, turns}

-- the most actions of a round
abbrev pub most_actions : ℕ
most_actions = 64

-- the amount of a limit raise, by its size
unfoldable pub limit_to : Game → List Turn → ℕ → ℕ → ℕ
limit_to game past position size = min (max_spent game past + size) (stack_of game position)

-- the least amount that a position may raise to; all its chips where they are less than a full raise
unfoldable pub least_raise : Game → List Turn → ℕ → ℕ
least_raise game past position =
    elim (raise_size_of game (current_round game past)) [
      | None ↦ min (min_to game (current_round game past) past) (stack_of game position)
      | Some size ↦ limit_to game past position size
    ]

-- the greatest amount that a position may raise to: all its chips, or the one amount of a limit game
unfoldable pub greatest_raise : Game → List Turn → ℕ → ℕ
greatest_raise game past position =
    elim (raise_size_of game (current_round game past)) [
      | None ↦ stack_of game position
      | Some size ↦ limit_to game past position size
    ]

-- a position may raise at all
pub record MayRaise (game : Game) (past : List Turn) (position : ℕ) : Type 0 where
  pub raises_left : raises_in (current_round game past) past < slice_index game.max_raises (current_round game past)
  -- for the raise and an answer of each other player
  pub room : actions_in (current_round game past) past + game.players ≤ most_actions
  pub somebody_to_call : 2 ≤ live_count game past
  pub chips_left : max_spent game past < stack_of game position

-- what the player to act may do: call at any time, fold where something is faced, raise to an amount between two ends
abbrev pub Allows : Game → List Turn → ℕ → Action → Type 0
Allows game past position Fold = spent game past position < max_spent game past
Allows game past position Call = Unit {0}
Allows game past position (Raise amount) =
    MayRaise game past position × (least_raise game past position ≤ amount) × (amount ≤ greatest_raise game past position)

-- somebody is to act and may do this
unfoldable pub CanAct : Game → List Turn → Action → Type 0
CanAct game past action = (position : ℕ) × (to_act game past ≡ Some position) × Allows game past position action

-- exactly the amounts between two ends are legal raises
pub record IsRaiseRange (game : Game) (past : List Turn) (least greatest : ℕ) : Type 0 where
  pub some : least ≤ greatest
  pub legal : (amount : ℕ) → CanAct game past (Raise amount) ↔ ((least ≤ amount) × (amount ≤ greatest))

-- each action was allowed after those before it; newest first
abbrev pub Legal : Game → List Action → Type 0
Legal game [] = Unit {0}
Legal game (action ∷ past) = Legal game past × CanAct game (turns game past) action

-- why a position may not raise at all: the first of the tests that fails, in this order
unfoldable pub no_raise : Game → List Turn → ℕ → Option ActFault
no_raise game past position =
    if nat_le (slice_index game.max_raises (current_round game past)) (raises_in (current_round game past) past) then Some TooManyRaises
    else if nat_lt most_actions (actions_in (current_round game past) past + game.players) then Some RoundFull
    else if nat_lt (live_count game past) 2 then Some NobodyToCall
    else if nat_le (stack_of game position) (max_spent game past) then Some (RaiseTooLarge (stack_of game position))
    else None

-- why a position that may raise may not raise to this amount
unfoldable pub wrong_amount : Game → List Turn → ℕ → ℕ → Option ActFault
wrong_amount game past position amount =
    if nat_lt amount (least_raise game past position) then Some (RaiseTooSmall (least_raise game past position))
    else if nat_lt (greatest_raise game past position) amount then Some (RaiseTooLarge (greatest_raise game past position))
    else None

-- why a position may not raise to an amount; none where it may
unfoldable pub fault_of_raise : Game → List Turn → ℕ → ℕ → Option ActFault
fault_of_raise game past position amount =
    elim (no_raise game past position) [ Some fault ↦ Some fault | None ↦ wrong_amount game past position amount ]

-- why the player to act may not do this; none where he may
unfoldable pub fault_at : Game → List Turn → ℕ → Action → Option ActFault
fault_at game past position Fold = if nat_lt (spent game past position) (max_spent game past) then None else Some FoldNotFacing
fault_at game past position Call = None
fault_at game past position (Raise amount) = fault_of_raise game past position amount

-- why an action isn't allowed; none where it is
unfoldable pub fault_of : Game → List Turn → Action → Option ActFault
fault_of game past action = elim (to_act game past) [ None ↦ Some Finished | Some position ↦ fault_at game past position action ]
