-- What the definitions say of small cases, and what they don't.
use Rattle.std.proofs.Common.{◌≡◌, ℕ, true, false, List, [], ◌∷◌, ◌++◌, codes, None, Some, refl, ap, arith}
use Rattle.game_def.specs.Game.{Game}
use Rattle.seat_relay.specs.declared.place.Place.{Place}
use Rattle.seat_relay.specs.declared.mode.Mode.{Mode}
use Rattle.seat_relay.specs.Places.{is_later}
use Rattle.seat_relay.specs.Relaying.{Line, Event, Begins, Ends, Tells, Closes, Says, Pushes, is_echo, happens, answered, all_given, after}
use Rattle.seat_relay.specs.Laws.{fresh, AscendFrom, told_over, IsPart, all_said}
use Rattle.betting.specs.declared.action.Action.TheVariants.{Fold, Call}
use Rattle.betting.specs.Turns.{count_below, max_spent, spent, folded, live, live_count, unfolded_count, has_answered, owes, owing_count}
use Rattle.betting.specs.Rounds.{is_alone, can_bet_on, ends_round, over, current_round, first_from, first_cyclic, search_start, to_act}
use Rattle.betting.specs.Legal.{CanAct}
use Rattle.seat_relay.specs.Mending.{read_part, IsRaiseTo, IsMended}

-- two players, limit and no-limit
abbrev limit_pair : Game
limit_pair = record {
  players = 2;
  stacks = 2147483647 ∷ 2147483647 ∷ [];
  blinds = 10 ∷ 5 ∷ [];
  raise_sizes = Some (10 ∷ 10 ∷ 20 ∷ 20 ∷ []);
  first_players = 1 ∷ 0 ∷ 0 ∷ 0 ∷ [];
  max_raises = 3 ∷ 4 ∷ 4 ∷ 4 ∷ [];
}

abbrev no_limit_pair : Game
no_limit_pair = record {
  players = 2;
  stacks = 20000 ∷ 20000 ∷ [];
  blinds = 100 ∷ 50 ∷ [];
  raise_sizes = None;
  first_players = 1 ∷ 0 ∷ 0 ∷ 0 ∷ [];
  max_raises = 255 ∷ 255 ∷ 255 ∷ 255 ∷ [];
}

-- ---- places

abbrev at : ℕ → ℕ → Place
at hand len = record { hand = hand; len = len }

more_betting_is_later : is_later (at 3 4) (at 3 5) ≡ true
more_betting_is_later = refl

a_further_hand_is_later : is_later (at 3 4) (at 4 0) ≡ true
a_further_hand_is_later = refl

as_much_is_not_later : is_later (at 3 4) (at 3 4) ≡ false
as_much_is_not_later = refl

an_earlier_hand_is_not_later : is_later (at 3 4) (at 2 9) ≡ false
an_earlier_hand_is_not_later = refl

-- ---- lines of two nodes

abbrev from_the_first : Mode
from_the_first = record { newest = false; first_stands = false }

abbrev from_anywhere : Mode
from_anywhere = record { newest = true; first_stands = false }

abbrev first_answers : Mode
first_answers = record { newest = false; first_stands = true }

abbrev line : ℕ → ℕ → Line
line hand len = record { text = hand ∷ len ∷ []; place = at hand len }

abbrev two_nodes : List Event
two_nodes = Begins 0 ∷ Begins 1 ∷ Tells 0 (line 0 0) ∷ Tells 0 (line 0 1) ∷ Tells 1 (line 0 0) ∷ Tells 1 (line 0 1) ∷ Tells 1 (line 1 0) ∷ Tells 0 (line 1 0) ∷ []

-- the bot is given each once
each_line_once : all_given (fresh from_the_first 2) two_nodes ≡ line 0 0 ∷ line 0 1 ∷ line 1 0 ∷ []
unfolding all_given happens
each_line_once = refl

-- ---- where connections begin

abbrev tail_of : List Line → List Line
tail_of [] = []
tail_of (a ∷ []) = []
tail_of (a ∷ b ∷ []) = []
tail_of (a ∷ b ∷ c ∷ rest) = rest

no_tail : (before behind : List Line) → [] ≡ before ++ (line 0 0 ∷ line 1 0 ∷ behind) → ⊥
no_tail [] behind same = cc
no_tail (a ∷ before) behind same = cc

no_number : (n : ℕ) → n ≡ 0 → n ≡ 1 → ⊥
no_number n none one = omega arith

gap_in : (before behind : List Line) → line 0 0 ∷ line 0 1 ∷ line 1 0 ∷ [] ≡ before ++ (line 0 0 ∷ line 1 0 ∷ behind) → ⊥
gap_in [] behind same = let next : line 0 1 ≡ line 1 0 = cc in no_number 0 refl (ap (λ (l : Line). l.place.hand) next)
gap_in (a ∷ []) behind same = let next : line 0 1 ≡ line 0 0 = cc in no_number 1 (ap (λ (l : Line). l.place.len) next) refl
gap_in (a ∷ b ∷ []) behind same = let next : line 1 0 ≡ line 0 0 = cc in no_number 1 (ap (λ (l : Line). l.place.hand) next) refl
gap_in (a ∷ b ∷ c ∷ before) behind same = no_tail before behind (ap tail_of same)

-- with another line than the first deal's none may begin, unless the bot's lines may begin anywhere
no_first_line : all_given (fresh from_the_first 1) (Begins 0 ∷ Tells 0 (line 0 1) ∷ Tells 0 (line 1 0) ∷ []) ≡ []
unfolding all_given happens
no_first_line = refl

the_newest_line : all_given (fresh from_anywhere 1) (Begins 0 ∷ Tells 0 (line 0 1) ∷ Tells 0 (line 1 0) ∷ []) ≡ line 0 1 ∷ line 1 0 ∷ []
unfolding all_given happens
the_newest_line = refl

-- a connection that begins ahead of the bot gives it nothing, before or behind the line that is missing
abbrev a_gap : List Event
a_gap = Begins 0 ∷ Tells 0 (line 0 0) ∷ Ends 0 ∷ Begins 0 ∷ Tells 0 (line 1 0) ∷ Tells 0 (line 1 1) ∷ []

no_gap : all_given (fresh from_the_first 1) a_gap ≡ line 0 0 ∷ []
unfolding all_given happens
no_gap = refl

nothing_without_a_connection : all_given (fresh from_anywhere 1) (Tells 0 (line 0 0) ∷ []) ≡ []
unfolding all_given happens
nothing_without_a_connection = refl

what_came_over_the_last_connection : told_over 0 a_gap ≡ line 1 0 ∷ line 1 1 ∷ []
what_came_over_the_last_connection = refl

-- ---- two answers to one line

abbrev two_answers : List Event
two_answers = Begins 0 ∷ Tells 0 (line 0 0) ∷ Says (0 ∷ 0 ∷ codes ":c") ∷ Pushes 0 ∷ Says (0 ∷ 0 ∷ codes ":f") ∷ Pushes 0 ∷ []

-- the first one stands where it is to: the other one is said to nobody
the_first_stands : (all_said (fresh first_answers 1) two_answers) ≡ record { last = Some (line 0 0); text = 0 ∷ 0 ∷ codes ":c" } ∷ []
unfolding all_said happens answered
the_first_stands = refl

-- else each is said
the_second_takes_its_place : (all_said (fresh from_the_first 1) two_answers) ≡ record { last = Some (line 0 0); text = 0 ∷ 0 ∷ codes ":c" } ∷ record { last = Some (line 0 0); text = 0 ∷ 0 ∷ codes ":f" } ∷ []
unfolding all_said happens answered
the_second_takes_its_place = refl

-- a further line may be answered again
abbrev a_line_later : List Event
a_line_later = two_answers ++ Tells 0 (line 0 1) ∷ Says (0 ∷ 1 ∷ codes ":f") ∷ []

the_next_is_answered : (after (fresh first_answers 1) a_line_later).kept ≡ Some (0 ∷ 1 ∷ codes ":f")
unfolding after happens
the_next_is_answered = refl

-- ---- the end

it_is_over_behind_the_newest_line : (after (fresh from_the_first 2) (two_nodes ++ Closes 0 ∷ [])).over ≡ true
unfolding after happens
it_is_over_behind_the_newest_line = refl

-- not behind an earlier one, nor once a further line came
it_is_not_behind_an_earlier_one : (after (fresh from_the_first 2) (Begins 0 ∷ Begins 1 ∷ Tells 0 (line 0 0) ∷ Tells 1 (line 0 0) ∷ Tells 1 (line 0 1) ∷ Closes 0 ∷ [])).over ≡ false
unfolding after happens
it_is_not_behind_an_earlier_one = refl

a_further_line_goes_on : (after (fresh from_the_first 2) (two_nodes ++ Closes 0 ∷ Tells 1 (line 1 1) ∷ [])).over ≡ false
unfolding after happens
a_further_line_goes_on = refl

-- a part has no gap
no_part_with_a_gap : IsPart (line 0 0 ∷ line 1 0 ∷ []) (line 0 0 ∷ line 0 1 ∷ line 1 0 ∷ []) → ⊥
no_part_with_a_gap part = gap_in part.before part.behind part.joined

-- the same line twice doesn't ascend
twice_does_not_ascend : AscendFrom None (line 0 1 ∷ line 0 1 ∷ []) → ⊥
twice_does_not_ascend ascends = let news = ascends.1.0 in absurd cc

-- ---- answers

an_answer_is_an_echo : is_echo (codes "MATCHSTATE:0:0::5d5c|") (codes "MATCHSTATE:0:0::5d5c|:c") ≡ true
an_answer_is_an_echo = refl

without_a_colon_is_none : is_echo (codes "MATCHSTATE:0:0::5d5c|") (codes "MATCHSTATE:0:0::5d5c|c") ≡ false
without_a_colon_is_none = refl

to_another_line_is_none : is_echo (codes "MATCHSTATE:0:0::5d5c|") (codes "MATCHSTATE:0:1::5d5c|:c") ≡ false
to_another_line_is_none = refl

-- ---- what is read of an answer

a_word_is_its_letter : read_part no_limit_pair (codes "fold") ≡ codes "f"
a_word_is_its_letter = refl

a_raise_is_its_digits : read_part no_limit_pair (codes "r300 chips") ≡ codes "r300"
a_raise_is_its_digits = refl

in_limit_it_is_its_letter : read_part limit_pair (codes "r300 chips") ≡ codes "r"
in_limit_it_is_its_letter = refl

other_letters_are_nothing : read_part limit_pair (codes "R") ≡ []
other_letters_are_nothing = refl

-- ---- raises to a number of chips

a_raise_has_a_number : IsRaiseTo no_limit_pair (codes "r0300") 300
a_raise_has_a_number = record { no_limit = refl; digits = codes "0300"; written = refl; some = omega arith; all_digits = refl; worth = refl }

in_limit_it_has_none : IsRaiseTo limit_pair (codes "r300") 300 → ⊥
in_limit_it_has_none raise = let none = raise.no_limit in absurd cc

-- ---- what is mended

a_call_is_allowed : CanAct no_limit_pair [] Call
unfolding CanAct to_act over live live_count folded unfolded_count search_start current_round first_from first_cyclic spent max_spent count_below has_answered owes owing_count is_alone can_bet_on ends_round
a_call_is_allowed = (1, refl, tt)

-- what is allowed isn't changed: not a call to a fold
a_call_is_no_fold : IsMended no_limit_pair [] (codes "c") Fold → ⊥
a_call_is_no_fold mended = let own = mended.own Call refl a_call_is_allowed in absurd cc
