-- The running totals of a hand, and what each stands for.
use Rattle.std.specs.Prelude.{◌≡◌, ℕ, ◌+◌, ◌-◌, ◌*◌, ◌<◌, min, max, Bool, true, false, not, ◌&&◌, ◌||◌, ◌==◌, nat_lt, nat_le, if◌then◌else◌, List, length, Option, Some, None, slice_index, slice_index_or, slice_set}
use Rattle.game_def.specs.Game.{Game, stack_of, big_blind, raise_size_of}
use Rattle.betting.specs.declared.action.Action.{Action}
use Rattle.betting.specs.declared.action.Action.TheVariants.{Fold, Call, Raise}
use Rattle.betting.specs.declared.fault.ActFault.{ActFault}
use Rattle.betting.specs.declared.fault.ActFault.TheVariants.{TooManyRaises, NobodyToCall, RaiseTooLarge, RoundFull}
use Rattle.betting.specs.declared.totals.Totals.{Totals}
use Rattle.betting.specs.Turns.{Turn, count_below, max_spent, spent, folded, owing_count, actions_in, raises_in, min_to}
use Rattle.betting.specs.Rounds.{current_round, first_cyclic, to_act}

-- the totals of a history, in the round that they count in
pub record IsTally (game : Game) (past : List Turn) (totals : Totals) : Type 0 where
  pub spent_places : length totals.spent ≡ 10
  pub folded_places : length totals.folded ≡ 10
  pub spent_each : (position : ℕ) → position < game.players → slice_index totals.spent position ≡ spent game past position
  pub folded_each : (position : ℕ) → position < game.players → slice_index_or totals.folded position false ≡ folded past position
  pub most : totals.max_spent ≡ max_spent game past
  pub full_raise : totals.min_to ≡ min_to game totals.round past
  pub raises : totals.raises ≡ raises_in totals.round past
  pub actions : totals.actions ≡ actions_in totals.round past
  pub owing : totals.owing ≡ owing_count game totals.round past

-- they count in the round that has begun, and tell who is to act
pub record IsTotals (game : Game) (past : List Turn) (totals : Totals) : Type 0 where
  pub tally : IsTally game past totals
  pub round : totals.round ≡ current_round game past
  pub next : totals.next ≡ to_act game past

-- live, by the totals
abbrev pub seat_lives : Game → Totals → ℕ → Bool
seat_lives game totals position = not (slice_index_or totals.folded position false) && nat_lt (slice_index totals.spent position) (stack_of game position)

-- how many are live, by the totals
abbrev pub lives_in : Game → Totals → ℕ
lives_in game totals = count_below (seat_lives game totals) game.players

-- has not folded, by the totals
abbrev pub seat_stays : Totals → ℕ → Bool
seat_stays totals position = not (slice_index_or totals.folded position false)

-- how many haven't folded, by the totals
abbrev pub stays_in : Game → Totals → ℕ
stays_in game totals = count_below (seat_stays totals) game.players

-- the totals after a fold, its round not closed yet
abbrev pub folds : Totals → ℕ → Totals
folds totals position = record totals {
  folded = slice_set totals.folded position true;
  actions = totals.actions + 1;
  owing = totals.owing - 1;
}

-- after a call
abbrev pub calls : Game → Totals → ℕ → Totals
calls game totals position = record totals {
  spent = slice_set totals.spent position (min totals.max_spent (stack_of game position));
  actions = totals.actions + 1;
  owing = totals.owing - 1;
}

-- after a raise, but for who owes an answer
abbrev pub puts_in : Totals → ℕ → ℕ → Totals
puts_in totals position amount = record totals {
  spent = slice_set totals.spent position amount;
  max_spent = amount;
  min_to = max totals.min_to (2 * amount - totals.max_spent);
  raises = totals.raises + 1;
  actions = totals.actions + 1;
}

-- the others who are live owe an answer
abbrev pub raises_to : Game → Totals → ℕ → ℕ → Totals
raises_to game totals position amount = record (puts_in totals position amount) {
  owing = lives_in game (puts_in totals position amount) - (if seat_lives game (puts_in totals position amount) position then 1 else 0);
}

-- after an action
abbrev pub takes : Game → Totals → ℕ → Action → Totals
takes game totals position Fold = folds totals position
takes game totals position Call = calls game totals position
takes game totals position (Raise amount) = raises_to game totals position amount

-- a raise goes above an amount
abbrev pub GoesUp : ℕ → Action → Type 0
GoesUp most Fold = Unit {0}
GoesUp most Call = Unit {0}
GoesUp most (Raise amount) = most < amount

-- the round that has begun after an action
abbrev pub round_after : Totals → ℕ → ℕ → ℕ
round_after totals unfolded live =
    if nat_lt unfolded 2 then totals.round
    else if totals.owing == 0 then (if nat_lt 1 live then min 3 (totals.round + 1) else 3) else totals.round

-- an action ended the hand
abbrev pub ends_hand : Totals → ℕ → ℕ → Bool
ends_hand totals unfolded live = nat_lt unfolded 2 || (totals.owing == 0 && (nat_lt live 2 || totals.round == 3))

-- a new round begins anew
abbrev pub enters : Game → Totals → ℕ → ℕ → Totals
enters game totals round live =
    if round == totals.round then totals
    else record totals { round = round; raises = 0; actions = 0; owing = live; min_to = totals.max_spent + big_blind game }

-- from where the next to act is looked for
abbrev pub looks_from : Game → Totals → ℕ → ℕ → ℕ
looks_from game totals round position = if round == totals.round then position + 1 else slice_index game.first_players round

-- after an action of a position the round goes on, ends or ends the hand
unfoldable pub advances : Game → Totals → ℕ → Totals
advances game totals position =
    record (enters game totals (round_after totals (stays_in game totals) (lives_in game totals)) (lives_in game totals)) {
      next =
          if ends_hand totals (stays_in game totals) (lives_in game totals) then None
          else first_cyclic (seat_lives game totals) game.players (looks_from game totals (round_after totals (stays_in game totals) (lives_in game totals)) position);
    }

-- the least amount of a raise, by the totals
abbrev pub least_by : Game → Totals → ℕ → ℕ
least_by game totals position =
    elim (raise_size_of game totals.round) [
      | None ↦ min totals.min_to (stack_of game position)
      | Some size ↦ min (totals.max_spent + size) (stack_of game position)
    ]

-- the greatest
abbrev pub greatest_by : Game → Totals → ℕ → ℕ
greatest_by game totals position =
    elim (raise_size_of game totals.round) [
      | None ↦ stack_of game position
      | Some size ↦ min (totals.max_spent + size) (stack_of game position)
    ]

-- the tests of a raise, by the totals
abbrev pub no_raise_by : Game → Totals → ℕ → Option ActFault
no_raise_by game totals position =
    if nat_le (slice_index game.max_raises totals.round) totals.raises then Some TooManyRaises
    else if nat_lt 64 (totals.actions + game.players) then Some RoundFull
    else if nat_lt (lives_in game totals) 2 then Some NobodyToCall
    else if nat_le (stack_of game position) totals.max_spent then Some (RaiseTooLarge (stack_of game position))
    else None
