-- Worked hands that pin the definitions; each computes.
use Rattle.std.proofs.Common.{◌≡◌, ℕ, zero, suc, ◌+◌, ◌*◌, true, false, List, [], ◌∷◌, Some, None, arith, refl, reverse, map, replicate}
use Rattle.std.specs.Prelude.{codes}
use Rattle.std.specs.Fmt.{digits}
use Rattle.game_def.specs.Game.{Game}
use Rattle.betting.specs.declared.action.Action.{Action}
use Rattle.betting.specs.declared.action.Action.TheVariants.{Fold, Call, Raise}
use Rattle.betting.specs.declared.fault.ActFault.TheVariants.{Finished, FoldNotFacing, TooManyRaises, NobodyToCall, RaiseTooSmall, RaiseTooLarge, RoundFull}
use Rattle.betting.specs.Turns.{Turn, count_below, max_spent, spent, folded, live, live_count, unfolded_count, has_answered, owes, owing_count, actions_in, raises_in, min_to}
use Rattle.betting.specs.Rounds.{is_alone, can_bet_on, ends_round, over, current_round, first_from, first_cyclic, search_start, to_act, with_turn, turns}
use Rattle.betting.specs.Legal.{limit_to, least_raise, greatest_raise, no_raise, wrong_amount, fault_of_raise, fault_at, fault_of, CanAct, Legal, IsRaiseRange}
use Rattle.betting.proofs.Legal.{can_act-none}
use Rattle.betting.proofs.Ranges.{range_open}
use Rattle.betting.specs.Text.{action_text, slash_counts, text}
use Rattle.betting.specs.Fault.{fault_code, fault_text}

-- opens the definitions
unfoldable pub opened : ℕ
unfolding count_below max_spent spent folded live live_count unfolded_count has_answered owes owing_count actions_in raises_in min_to is_alone can_bet_on ends_round over current_round first_from first_cyclic search_start to_act with_turn turns limit_to least_raise greatest_raise no_raise wrong_amount fault_of_raise fault_at fault_of action_text slash_counts text digits
opened = 0

-- a list of actions, oldest first, as the history that they make
abbrev played : Game → List Action → List Turn
played game actions = turns game (reverse actions)

-- three players, no-limit, unequal stacks
abbrev pub three_players : Game
three_players = record {
  players = 3;
  stacks = 1000 ∷ 150 ∷ 5000 ∷ [];
  blinds = 50 ∷ 100 ∷ 0 ∷ [];
  raise_sizes = None;
  first_players = 2 ∷ 0 ∷ 0 ∷ 0 ∷ [];
  max_raises = 255 ∷ 255 ∷ 255 ∷ 255 ∷ [];
}

-- three players: unequal stacks, a short all-in, a raise over it, an all-in that ends the hand
all_in_text : text three_players (reverse (Call ∷ Call ∷ Raise 150 ∷ Raise 200 ∷ Call ∷ Raise 1000 ∷ Call ∷ [])) ≡ codes "ccr150r200c/r1000c//"
unfolding opened
all_in_text = refl

all_in_slashes : slash_counts three_players (reverse (Call ∷ Call ∷ Raise 150 ∷ Raise 200 ∷ Call ∷ Raise 1000 ∷ Call ∷ [])) ≡ reverse (0 ∷ 0 ∷ 0 ∷ 0 ∷ 1 ∷ 0 ∷ 2 ∷ [])
unfolding opened
all_in_slashes = refl

all_in_over : over three_players (played three_players (Call ∷ Call ∷ Raise 150 ∷ Raise 200 ∷ Call ∷ Raise 1000 ∷ Call ∷ [])) ≡ true
unfolding opened
all_in_over = refl

all_in_rounds : current_round three_players (played three_players (Call ∷ Call ∷ Raise 150 ∷ Raise 200 ∷ Call ∷ Raise 1000 ∷ Call ∷ [])) ≡ 3
unfolding opened
all_in_rounds = refl

all_in_unfolded : unfolded_count three_players (played three_players (Call ∷ Call ∷ Raise 150 ∷ Raise 200 ∷ Call ∷ Raise 1000 ∷ Call ∷ [])) ≡ 3
unfolding opened
all_in_unfolded = refl

all_in_spent : map (spent three_players (played three_players (Call ∷ Call ∷ Raise 150 ∷ Raise 200 ∷ Call ∷ Raise 1000 ∷ Call ∷ []))) (0 ∷ 1 ∷ 2 ∷ []) ≡ 1000 ∷ 150 ∷ 1000 ∷ []
unfolding opened
all_in_spent = refl

all_in_finished : fault_of three_players (played three_players (Call ∷ Call ∷ Raise 150 ∷ Raise 200 ∷ Call ∷ Raise 1000 ∷ Call ∷ [])) Call ≡ Some Finished
unfolding opened
all_in_finished = refl

first_to_act : to_act three_players [] ≡ Some 2
unfolding opened
first_to_act = refl

short_stack_to_act : to_act three_players (played three_players (Call ∷ Call ∷ [])) ≡ Some 1
unfolding opened
short_stack_to_act = refl

short_stack_least : least_raise three_players (played three_players (Call ∷ Call ∷ [])) 1 ≡ 150
unfolding opened
short_stack_least = refl

short_stack_greatest : greatest_raise three_players (played three_players (Call ∷ Call ∷ [])) 1 ≡ 150
unfolding opened
short_stack_greatest = refl

over_short_all_in_to_act : to_act three_players (played three_players (Call ∷ Call ∷ Raise 150 ∷ [])) ≡ Some 2
unfolding opened
over_short_all_in_to_act = refl

over_short_all_in_least : least_raise three_players (played three_players (Call ∷ Call ∷ Raise 150 ∷ [])) 2 ≡ 200
unfolding opened
over_short_all_in_least = refl

over_short_all_in_greatest : greatest_raise three_players (played three_players (Call ∷ Call ∷ Raise 150 ∷ [])) 2 ≡ 5000
unfolding opened
over_short_all_in_greatest = refl

over_short_all_in_too_small : fault_of three_players (played three_players (Call ∷ Call ∷ Raise 150 ∷ [])) (Raise 199) ≡ Some (RaiseTooSmall 200)
unfolding opened
over_short_all_in_too_small = refl

over_short_all_in_too_large : fault_of three_players (played three_players (Call ∷ Call ∷ Raise 150 ∷ [])) (Raise 5001) ≡ Some (RaiseTooLarge 5000)
unfolding opened
over_short_all_in_too_large = refl

over_short_all_in_least_allowed : fault_of three_players (played three_players (Call ∷ Call ∷ Raise 150 ∷ [])) (Raise 200) ≡ None
unfolding opened
over_short_all_in_least_allowed = refl

short_all_in_keeps_the_step : min_to three_players 0 (played three_players (Call ∷ Call ∷ Raise 150 ∷ [])) ≡ 200
unfolding opened
short_all_in_keeps_the_step = refl

nobody_to_call : fault_of three_players (played three_players (Call ∷ Call ∷ Raise 150 ∷ Raise 200 ∷ Call ∷ Raise 1000 ∷ [])) (Raise 2000) ≡ Some NobodyToCall
unfolding opened
nobody_to_call = refl

fold_not_facing : fault_of three_players (played three_players (Call ∷ Call ∷ [])) Fold ≡ Some FoldNotFacing
unfolding opened
fold_not_facing = refl

first_of_second_round : to_act three_players (played three_players (Call ∷ Call ∷ Raise 150 ∷ Raise 200 ∷ Call ∷ [])) ≡ Some 0
unfolding opened
first_of_second_round = refl

second_round_base : min_to three_players 1 (played three_players (Call ∷ Call ∷ Raise 150 ∷ Raise 200 ∷ Call ∷ [])) ≡ 300
unfolding opened
second_round_base = refl

second_round_after_a_raise : min_to three_players 1 (played three_players (Call ∷ Call ∷ Raise 150 ∷ Raise 200 ∷ Call ∷ Raise 400 ∷ [])) ≡ 600
unfolding opened
second_round_after_a_raise = refl

-- all fold to the first raiser: no round begins
folds_text : text three_players (reverse (Raise 300 ∷ Fold ∷ Fold ∷ [])) ≡ codes "r300ff"
unfolding opened
folds_text = refl

folds_over : over three_players (played three_players (Raise 300 ∷ Fold ∷ Fold ∷ [])) ≡ true
unfolding opened
folds_over = refl

folds_round : current_round three_players (played three_players (Raise 300 ∷ Fold ∷ Fold ∷ [])) ≡ 0
unfolding opened
folds_round = refl

folds_unfolded : unfolded_count three_players (played three_players (Raise 300 ∷ Fold ∷ Fold ∷ [])) ≡ 1
unfolding opened
folds_unfolded = refl

folds_spent : map (spent three_players (played three_players (Raise 300 ∷ Fold ∷ Fold ∷ []))) (0 ∷ 1 ∷ 2 ∷ []) ≡ 50 ∷ 100 ∷ 300 ∷ []
unfolding opened
folds_spent = refl

one_fold_folded : map (folded (played three_players (Raise 300 ∷ Fold ∷ []))) (0 ∷ 1 ∷ 2 ∷ []) ≡ true ∷ false ∷ false ∷ []
unfolding opened
one_fold_folded = refl

-- a fold that leaves one player with chips and one all-in shows all rounds
fold_behind_all_in_text : text three_players (reverse (Call ∷ Call ∷ Raise 150 ∷ Call ∷ Fold ∷ [])) ≡ codes "ccr150cf///"
unfolding opened
fold_behind_all_in_text = refl

-- a call for less than the raise; the other two play on
call_for_less_text : text three_players (reverse (Raise 300 ∷ Call ∷ Call ∷ Call ∷ Raise 700 ∷ Fold ∷ [])) ≡ codes "r300cc/cr700f//"
unfolding opened
call_for_less_text = refl

-- behind the fold that ends the hand stand the two rounds that are left
call_for_less_slashes : slash_counts three_players (reverse (Raise 300 ∷ Call ∷ Call ∷ Call ∷ Raise 700 ∷ Fold ∷ [])) ≡ reverse (0 ∷ 0 ∷ 1 ∷ 0 ∷ 0 ∷ 2 ∷ [])
unfolding opened
call_for_less_slashes = refl

call_for_less_spent : map (spent three_players (played three_players (Raise 300 ∷ Call ∷ Call ∷ []))) (0 ∷ 1 ∷ 2 ∷ []) ≡ 300 ∷ 150 ∷ 300 ∷ []
unfolding opened
call_for_less_spent = refl

checked_down_text : text three_players (reverse (Call ∷ Call ∷ Call ∷ Call ∷ Call ∷ Call ∷ Call ∷ Call ∷ Call ∷ Call ∷ Call ∷ Call ∷ [])) ≡ codes "ccc/ccc/ccc/ccc"
unfolding opened
checked_down_text = refl

checked_down_over : over three_players (played three_players (Call ∷ Call ∷ Call ∷ Call ∷ Call ∷ Call ∷ Call ∷ Call ∷ Call ∷ Call ∷ Call ∷ Call ∷ [])) ≡ true
unfolding opened
checked_down_over = refl

before_the_last_check : to_act three_players (played three_players (Call ∷ Call ∷ Call ∷ Call ∷ Call ∷ Call ∷ Call ∷ Call ∷ Call ∷ Call ∷ Call ∷ [])) ≡ Some 2
unfolding opened
before_the_last_check = refl

owing_at_the_start : owing_count three_players 0 [] ≡ 3
unfolding opened
owing_at_the_start = refl

owing_after_a_raise : owing_count three_players 0 (played three_players (Call ∷ Raise 300 ∷ [])) ≡ 2
unfolding opened
owing_after_a_raise = refl

owing_after_an_all_in : owing_count three_players 0 (played three_players (Call ∷ Call ∷ Raise 150 ∷ [])) ≡ 2
unfolding opened
owing_after_an_all_in = refl

-- limit games: the amounts are fixed, and the last raise is cut to the stack
abbrev pub limit_pair : Game
limit_pair = record {
  players = 2;
  stacks = 25 ∷ 25 ∷ [];
  blinds = 10 ∷ 5 ∷ [];
  raise_sizes = Some (10 ∷ 10 ∷ 20 ∷ 20 ∷ []);
  first_players = 1 ∷ 0 ∷ 0 ∷ 0 ∷ [];
  max_raises = 3 ∷ 4 ∷ 4 ∷ 4 ∷ [];
}

limit_text : text limit_pair (reverse (Raise 20 ∷ Raise 25 ∷ Call ∷ [])) ≡ codes "rrc///"
unfolding opened
limit_text = refl

limit_first : fault_of limit_pair [] (Raise 20) ≡ None
unfolding opened
limit_first = refl

limit_first_too_small : fault_of limit_pair [] (Raise 19) ≡ Some (RaiseTooSmall 20)
unfolding opened
limit_first_too_small = refl

limit_first_too_large : fault_of limit_pair [] (Raise 21) ≡ Some (RaiseTooLarge 20)
unfolding opened
limit_first_too_large = refl

limit_all_in_least : least_raise limit_pair (played limit_pair (Raise 20 ∷ [])) 0 ≡ 25
unfolding opened
limit_all_in_least = refl

limit_all_in_greatest : greatest_raise limit_pair (played limit_pair (Raise 20 ∷ [])) 0 ≡ 25
unfolding opened
limit_all_in_greatest = refl

limit_nobody_to_call : fault_of limit_pair (played limit_pair (Raise 20 ∷ Raise 25 ∷ [])) (Raise 25) ≡ Some NobodyToCall
unfolding opened
limit_nobody_to_call = refl

abbrev pub deep_pair : Game
deep_pair = record limit_pair { stacks = 2147483647 ∷ 2147483647 ∷ [] }

raises_of_a_round : fault_of deep_pair (played deep_pair (Raise 20 ∷ Raise 30 ∷ Raise 40 ∷ [])) (Raise 50) ≡ Some TooManyRaises
unfolding opened
raises_of_a_round = refl

raises_of_a_round_text : text deep_pair (reverse (Raise 20 ∷ Raise 30 ∷ Raise 40 ∷ Call ∷ [])) ≡ codes "rrrc/"
unfolding opened
raises_of_a_round_text = refl

raises_of_each_round : fault_of deep_pair (played deep_pair (Raise 20 ∷ Raise 30 ∷ Raise 40 ∷ Call ∷ [])) (Raise 50) ≡ None
unfolding opened
raises_of_each_round = refl

-- a round holds 64 actions, the raise and the answers among them
-- raises from 4 in steps of 2, newest first
raises_to : ℕ → List Action
raises_to zero = []
raises_to (suc count) = Raise (2 * count + 4) ∷ raises_to count

abbrev pub small_blinds : Game
small_blinds = record {
  players = 2;
  stacks = 20000 ∷ 20000 ∷ [];
  blinds = 2 ∷ 1 ∷ [];
  raise_sizes = None;
  first_players = 1 ∷ 0 ∷ 0 ∷ 0 ∷ [];
  max_raises = 255 ∷ 255 ∷ 255 ∷ 255 ∷ [];
}

room_for_63_raises : fault_of small_blinds (turns small_blinds (raises_to 62)) (Raise 128) ≡ None
unfolding opened raises_to
room_for_63_raises = refl

no_room_for_64_raises : fault_of small_blinds (turns small_blinds (raises_to 63)) (Raise 130) ≡ Some RoundFull
unfolding opened raises_to
no_room_for_64_raises = refl

room_for_the_answer : fault_of small_blinds (turns small_blinds (raises_to 63)) Call ≡ None
unfolding opened raises_to
room_for_the_answer = refl

-- the greatest blinds: the only raise is all-in
abbrev pub greatest_blinds : Game
greatest_blinds = record small_blinds { stacks = 2147483647 ∷ 2147483647 ∷ []; blinds = 2147483646 ∷ 1 ∷ [] }

greatest_blinds_to_act : to_act greatest_blinds [] ≡ Some 1
unfolding opened
greatest_blinds_to_act = refl

greatest_blinds_least : least_raise greatest_blinds [] 1 ≡ 2147483647
unfolding opened
greatest_blinds_least = refl

greatest_blinds_greatest : greatest_raise greatest_blinds [] 1 ≡ 2147483647
unfolding opened
greatest_blinds_greatest = refl

-- ten players
abbrev pub ten_players : Game
ten_players = record {
  players = 10;
  stacks = replicate 10 500;
  blinds = 5 ∷ 10 ∷ replicate 8 0;
  raise_sizes = None;
  first_players = 2 ∷ 0 ∷ 0 ∷ 0 ∷ [];
  max_raises = 255 ∷ 255 ∷ 255 ∷ 255 ∷ [];
}

ten_folds : text ten_players (reverse (Fold ∷ Fold ∷ Fold ∷ Fold ∷ Fold ∷ Fold ∷ Fold ∷ Fold ∷ Fold ∷ [])) ≡ codes "fffffffff"
unfolding opened
ten_folds = refl

ten_to_two : text ten_players (reverse (Raise 20 ∷ Fold ∷ Fold ∷ Fold ∷ Fold ∷ Fold ∷ Fold ∷ Fold ∷ Fold ∷ Call ∷ Call ∷ Raise 40 ∷ Fold ∷ [])) ≡ codes "r20ffffffffc/cr40f"
unfolding opened
ten_to_two = refl

ten_to_act : to_act ten_players (played ten_players (Fold ∷ Fold ∷ Fold ∷ Raise 30 ∷ Fold ∷ Fold ∷ Fold ∷ Fold ∷ Fold ∷ Fold ∷ [])) ≡ None
unfolding opened
ten_to_act = refl

ten_big_blind_to_act : to_act ten_players (played ten_players (Fold ∷ Fold ∷ Fold ∷ Raise 30 ∷ Fold ∷ Fold ∷ Fold ∷ Fold ∷ Fold ∷ [])) ≡ Some 1
unfolding opened
ten_big_blind_to_act = refl

ten_first_is_out : to_act ten_players (played ten_players (Call ∷ Call ∷ Call ∷ Call ∷ Call ∷ Call ∷ Call ∷ Call ∷ Fold ∷ Call ∷ [])) ≡ Some 1
unfolding opened
ten_first_is_out = refl

ten_all_in_at_the_end : text ten_players (reverse (Call ∷ Call ∷ Fold ∷ Fold ∷ Fold ∷ Fold ∷ Fold ∷ Fold ∷ Fold ∷ Call ∷ Call ∷ Call ∷ Raise 500 ∷ Call ∷ Fold ∷ [])) ≡ codes "ccfffffffc/ccr500cf//"
unfolding opened
ten_all_in_at_the_end = refl

-- what each player has in, in the middle of a round
ten_players_spent : map (spent ten_players (played ten_players (Call ∷ Raise 30 ∷ Fold ∷ Raise 60 ∷ []))) (1 ∷ 2 ∷ 3 ∷ 4 ∷ 5 ∷ []) ≡ 10 ∷ 10 ∷ 30 ∷ 0 ∷ 60 ∷ []
unfolding opened
ten_players_spent = refl

-- a play is legal by its actions, one after another
call_is_allowed : CanAct three_players (turns three_players []) Call
unfolding opened CanAct
call_is_allowed = (2, refl, tt)

legal_play : Legal three_players (Fold ∷ Raise 300 ∷ [])
unfolding opened CanAct
legal_play = (
  (tt, (2, refl, (record { raises_left = omega arith; room = omega arith; somebody_to_call = omega arith; chips_left = omega arith }, omega arith, omega arith))),
  (0, refl, omega arith),
)

-- the blinds are in, but nobody folds to himself
fold_not_allowed : CanAct three_players (played three_players (Call ∷ Call ∷ [])) Fold → ⊥
unfolding opened
fold_not_allowed can = let wrong : Some FoldNotFacing ≡ None = can_act-none three_players (played three_players (Call ∷ Call ∷ [])) Fold can in cc

-- a raise to one chip less than the least
small_raise_not_allowed : CanAct three_players (played three_players (Call ∷ Call ∷ Raise 150 ∷ [])) (Raise 199) → ⊥
unfolding opened
small_raise_not_allowed can = let wrong : Some (RaiseTooSmall 200) ≡ None = can_act-none three_players (played three_players (Call ∷ Call ∷ Raise 150 ∷ [])) (Raise 199) can in cc

illegal_play : Legal three_players (Call ∷ Fold ∷ Fold ∷ []) → ⊥
unfolding opened
illegal_play legal = let wrong : Some Finished ≡ None = can_act-none three_players (turns three_players (Fold ∷ Fold ∷ [])) Call legal.1 in cc

raise_range : IsRaiseRange three_players (played three_players (Call ∷ Call ∷ Raise 150 ∷ [])) 200 5000
unfolding opened
raise_range = range_open three_players (played three_players (Call ∷ Call ∷ Raise 150 ∷ [])) 2 200 5000 refl refl refl refl

-- one chip more at the lower end is no range
wide_raise_range : IsRaiseRange three_players (played three_players (Call ∷ Call ∷ Raise 150 ∷ [])) 199 5000 → ⊥
unfolding opened
wide_raise_range range =
    small_raise_not_allowed ((range.legal 199).1 (omega arith, omega arith))

-- an amount may also stay
amount_stays : spent three_players (played three_players (Raise 300 ∷ [])) 0 ≡ spent three_players (played three_players (Raise 300 ∷ Fold ∷ [])) 0
unfolding opened
amount_stays = refl

-- all-ins in the last two rounds
all_in_third_round : text three_players (reverse (Call ∷ Call ∷ Call ∷ Call ∷ Call ∷ Call ∷ Raise 1000 ∷ Call ∷ Call ∷ [])) ≡ codes "ccc/ccc/r1000cc/"
unfolding opened
all_in_third_round = refl

all_in_third_round_over : over three_players (played three_players (Call ∷ Call ∷ Call ∷ Call ∷ Call ∷ Call ∷ Raise 1000 ∷ Call ∷ Call ∷ [])) ≡ true
unfolding opened
all_in_third_round_over = refl

all_in_last_round : text three_players (reverse (Call ∷ Call ∷ Call ∷ Call ∷ Call ∷ Call ∷ Call ∷ Call ∷ Call ∷ Raise 1000 ∷ Call ∷ Call ∷ [])) ≡ codes "ccc/ccc/ccc/r1000cc"
unfolding opened
all_in_last_round = refl

all_in_last_round_over : over three_players (played three_players (Call ∷ Call ∷ Call ∷ Call ∷ Call ∷ Call ∷ Call ∷ Call ∷ Call ∷ Raise 1000 ∷ Call ∷ Call ∷ [])) ≡ true
unfolding opened
all_in_last_round_over = refl

all_in_last_round_spent : map (spent three_players (played three_players (Call ∷ Call ∷ Call ∷ Call ∷ Call ∷ Call ∷ Call ∷ Call ∷ Call ∷ Raise 1000 ∷ Call ∷ Call ∷ []))) (0 ∷ 1 ∷ 2 ∷ []) ≡ 1000 ∷ 150 ∷ 1000 ∷ []
unfolding opened
all_in_last_round_spent = refl

-- a short stack behind a greater amount may not raise at all, and the answer tells its stack
short_stack_behind : fault_of three_players (played three_players (Raise 300 ∷ Call ∷ [])) (Raise 120) ≡ Some (RaiseTooLarge 150)
unfolding opened
short_stack_behind = refl

short_stack_behind_all_in : fault_of three_players (played three_players (Raise 300 ∷ Call ∷ [])) (Raise 150) ≡ Some (RaiseTooLarge 150)
unfolding opened
short_stack_behind_all_in = refl

short_stack_behind_may_call : fault_of three_players (played three_players (Raise 300 ∷ Call ∷ [])) Call ≡ None
unfolding opened
short_stack_behind_may_call = refl

too_small_text : fault_text (RaiseTooSmall 200) ≡ codes "24 RaiseTooSmall 200"
unfolding opened
too_small_text = refl

too_large_text : fault_text (RaiseTooLarge 5000) ≡ codes "25 RaiseTooLarge 5000"
unfolding opened
too_large_text = refl

finished_text : fault_text Finished ≡ codes "20 Finished"
finished_text = refl

round_full_code : fault_code RoundFull ≡ 26
round_full_code = refl
