-- Rounds, the hand's end, and who is to act.
use Rattle.std.specs.Prelude.{ℕ, zero, suc, ◌+◌, ◌-◌, min, Bool, true, false, ◌&&◌, ◌||◌, ◌==◌, nat_lt, if◌then◌else◌, List, [], ◌∷◌, Option, Some, None, unwrap_or, slice_index}
use Rattle.game_def.specs.Game.{Game}
use Rattle.betting.specs.declared.action.Action.{Action}
use Rattle.betting.specs.Turns.{Turn, turn_by, live, live_count, unfolded_count, owing_count}

-- the last of the four rounds, which count from 0
abbrev pub last_round : ℕ
last_round = 3

-- all but one have folded
unfoldable pub is_alone : Game → List Turn → Bool
is_alone game past = nat_lt (unfolded_count game past) 2

-- two or more can still bet
unfoldable pub can_bet_on : Game → List Turn → Bool
can_bet_on game past = nat_lt 1 (live_count game past)

-- the newest turn was the last of its round: every live player has acted since the last raise, or made it
unfoldable pub ends_round : Game → List Turn → Bool
ends_round game [] = false
ends_round game (turn ∷ past) = owing_count game turn.round (turn ∷ past) == 0

-- the hand ends when one unfolded player is left, or at the end of a round that is the last or leaves fewer than two live
unfoldable pub over : Game → List Turn → Bool
over game [] = false
over game (turn ∷ past) =
    is_alone game (turn ∷ past)
    || (ends_round game (turn ∷ past) && (nat_lt (live_count game (turn ∷ past)) 2 || turn.round == last_round))

-- the round that has begun, the last one of those that the betting text shows: after a round's end the next one,
-- or all four where fewer than two live players are left; a fold that ends the hand begins none
unfoldable pub current_round : Game → List Turn → ℕ
current_round game [] = 0
current_round game (turn ∷ past) =
    if is_alone game (turn ∷ past) then turn.round
    else if ends_round game (turn ∷ past)
    then (if can_bet_on game (turn ∷ past) then min last_round (turn.round + 1) else last_round)
    else turn.round

-- the first of so many positions, from one on, that passes
unfoldable pub first_from : (ℕ → Bool) → ℕ → ℕ → Option ℕ
first_from passes position zero = None
first_from passes position (suc count) = elim (passes position) [ true ↦ Some position | false ↦ first_from passes (position + 1) count ]

-- the first of all positions that passes, from one onwards, cyclic
unfoldable pub first_cyclic : (ℕ → Bool) → ℕ → ℕ → Option ℕ
first_cyclic passes players start =
    elim (first_from passes start (players - start)) [ Some position ↦ Some position | None ↦ first_from passes 0 start ]

-- where the search for the next to act begins: behind the last one who acted, and in a new round at its first player
unfoldable pub search_start : Game → List Turn → ℕ
search_start game [] = slice_index game.first_players 0
search_start game (turn ∷ past) =
    if current_round game (turn ∷ past) == turn.round then turn.player + 1
    else slice_index game.first_players (current_round game (turn ∷ past))

-- the next live position
unfoldable pub to_act : Game → List Turn → Option ℕ
to_act game past =
    elim (over game past) [ true ↦ None | false ↦ first_cyclic (live game past) game.players (search_start game past) ]

-- an action as the turn of the player to act, in the round that has begun
unfoldable pub with_turn : Game → List Turn → Action → List Turn
with_turn game past action = turn_by (unwrap_or (to_act game past) 0) (current_round game past) action ∷ past

-- who took each action, and in which round; newest first
unfoldable pub turns : Game → List Action → List Turn
turns game [] = []
turns game (action ∷ past) = with_turn game (turns game past) action
