-- What the players of a hand have put in and given up, by the whole history of the hand, newest turn first.
use Rattle.std.specs.Prelude.{ℕ, zero, suc, ◌+◌, ◌-◌, ◌*◌, max, min, Bool, true, false, not, ◌&&◌, ◌||◌, ◌==◌, nat_lt, if◌then◌else◌, List, [], ◌∷◌}
use Rattle.std.specs.List.{list_any}
use Rattle.game_def.specs.Game.{Game, stack_of, blind_of, big_blind}
use Rattle.betting.specs.declared.action.Action.{Action}
use Rattle.betting.specs.declared.action.Action.TheVariants.{Fold, Call, Raise}

-- who did what, in which round
pub record Turn : Type 0 where
  pub player : ℕ
  pub round : ℕ
  pub action : Action

-- a turn of a player in a round
abbrev pub turn_by : ℕ → ℕ → Action → Turn
turn_by player round action = record { player = player; round = round; action = action }

-- gives the hand up
abbrev pub is_fold : Action → Bool
is_fold Fold = true
is_fold Call = false
is_fold (Raise _) = false

-- raises, also all-in by less than a full raise
abbrev pub is_raise : Action → Bool
is_raise Fold = false
is_raise Call = false
is_raise (Raise _) = true

-- the amount raised to, over the whole hand; 0 where nothing is raised
abbrev pub raised_to : Action → ℕ
raised_to Fold = 0
raised_to Call = 0
raised_to (Raise amount) = amount

-- how many positions below a number pass
unfoldable pub count_below : (ℕ → Bool) → ℕ → ℕ
count_below passes zero = 0
count_below passes (suc position) = count_below passes position + (if passes position then 1 else 0)

-- the greatest of all blinds and of all amounts raised to
unfoldable pub max_spent : Game → List Turn → ℕ
max_spent game [] = big_blind game
max_spent game (turn ∷ past) = max (raised_to turn.action) (max_spent game past)

-- what a position has in: its last action that isn't a fold says so, and where there is none its blind;
-- a call goes up to the greatest amount before it, or to the stack
unfoldable pub spent : Game → List Turn → ℕ → ℕ
spent game [] position = blind_of game position
spent game (turn ∷ past) position =
    if turn.player == position
    then elim turn.action [ Fold ↦ spent game past position | Call ↦ min (max_spent game past) (stack_of game position) | Raise amount ↦ amount ]
    else spent game past position

-- a position has given its hand up
unfoldable pub folded : List Turn → ℕ → Bool
folded past position = list_any (λ turn. turn.player == position && is_fold turn.action) past

-- still in the hand, and with chips left
unfoldable pub live : Game → List Turn → ℕ → Bool
live game past position = not (folded past position) && nat_lt (spent game past position) (stack_of game position)

-- how many are live
unfoldable pub live_count : Game → List Turn → ℕ
live_count game past = count_below (live game past) game.players

-- how many haven't folded
unfoldable pub unfolded_count : Game → List Turn → ℕ
unfolded_count game past = count_below (λ position. not (folded past position)) game.players

-- a position has acted in the round since its last raise, or made that raise
unfoldable pub has_answered : ℕ → List Turn → ℕ → Bool
has_answered round [] position = false
has_answered round (turn ∷ past) position =
    turn.round == round && (turn.player == position || (not (is_raise turn.action) && has_answered round past position))

-- a live position that has yet to act in the round since its last raise
unfoldable pub owes : Game → ℕ → List Turn → ℕ → Bool
owes game round past position = live game past position && not (has_answered round past position)

-- how many have yet to act
unfoldable pub owing_count : Game → ℕ → List Turn → ℕ
owing_count game round past = count_below (owes game round past) game.players

-- the actions of a round
unfoldable pub actions_in : ℕ → List Turn → ℕ
actions_in round [] = 0
actions_in round (turn ∷ past) = actions_in round past + (if turn.round == round then 1 else 0)

-- the raises of a round
unfoldable pub raises_in : ℕ → List Turn → ℕ
raises_in round [] = 0
raises_in round (turn ∷ past) = raises_in round past + (if turn.round == round && is_raise turn.action then 1 else 0)

-- the least amount of a full raise in a no-limit game: the greatest of 2N - m over the round's raises from m to N
-- and of the round's base, which is the greatest amount at its beginning plus the greatest blind
unfoldable pub min_to : Game → ℕ → List Turn → ℕ
min_to game round [] = max_spent game [] + big_blind game
min_to game round (turn ∷ past) =
    if turn.round == round
    then elim turn.action [ Fold ↦ min_to game round past | Call ↦ min_to game round past | Raise amount ↦ max (2 * amount - max_spent game past) (min_to game round past) ]
    else max_spent game (turn ∷ past) + big_blind game
