-- Worked hands and logs that pin the definitions; each computes.
use Rattle.std.proofs.Common.{◌≡◌, ℕ, List, [], ◌∷◌, Some, length, refl, reverse, ◌≤◌, true, false, arith}
use Rattle.std.specs.Prelude.{codes, bytes_eq}
use Rattle.std.specs.List.{IsDistinct}
use Rattle.game_def.specs.Game.{Game}
use Rattle.betting.specs.declared.action.Action.TheVariants.{Fold, Call}
use Rattle.betting.proofs.Examples.{opened as betting_opened}
use Rattle.hand_rank.specs.Worth.{Worth}
use Rattle.hand_rank.specs.Five.{counts_of, is_flush, straight_top, groups_of, category_of, ranks_coming, by_count_then_height, deciding_ranks, worth_of_five}
use Rattle.side_pots.specs.Pots.{is_eligible, pot_of, opens_pot, is_winner, share, won_at, won}
use Rattle.slot_log.specs.Dealer.{hands_of}
use Rattle.slot_log.specs.declared.command.Command.TheVariants.{Deal, Act, Away}
use Rattle.match_log.specs.BestFive.{choices, greatest_of, best_worth}
use Rattle.match_log.specs.Payoffs.{values_of, amounts_of, folds_of, payoffs_of, total_of, totals_of}
use Rattle.match_log.specs.Lines.{header_line, state_text, state_line, score_text, score_line}
use Rattle.match_log.specs.Names.{IsName, IsGameWord, AreNames, is_name_byte, names_by_position}
use Rattle.match_log.specs.Log.{Title, state_lines, log_of, log_lines}
use Rattle.match_log.specs.Further.{log_added}
use Rattle.match_log.specs.Fronted.{fronted}

-- opens the definitions
unfoldable pub opened : ℕ
unfolding betting_opened counts_of is_flush straight_top groups_of category_of ranks_coming by_count_then_height deciding_ranks worth_of_five is_eligible pot_of opens_pot is_winner share won_at won hands_of choices greatest_of best_worth values_of amounts_of folds_of payoffs_of total_of totals_of header_line state_text state_line score_text score_line state_lines log_of log_lines
opened = 0

-- two players, limit, blinds of 10 and 5
abbrev pub two_players : Game
two_players = record {
  players = 2;
  stacks = 2147483647 ∷ 2147483647 ∷ [];
  blinds = 10 ∷ 5 ∷ [];
  raise_sizes = Some (10 ∷ 10 ∷ 20 ∷ 20 ∷ []);
  first_players = 1 ∷ 0 ∷ 0 ∷ 0 ∷ [];
  max_raises = 3 ∷ 4 ∷ 4 ∷ 4 ∷ [];
}

-- three players, limit, blinds of 5 and 10
abbrev pub three_players : Game
three_players = record {
  players = 3;
  stacks = 2147483647 ∷ 2147483647 ∷ 2147483647 ∷ [];
  blinds = 5 ∷ 10 ∷ 0 ∷ [];
  raise_sizes = Some (10 ∷ 10 ∷ 20 ∷ 20 ∷ []);
  first_players = 2 ∷ 0 ∷ 0 ∷ 0 ∷ [];
  max_raises = 3 ∷ 4 ∷ 4 ∷ 4 ∷ [];
}

abbrev pub alice_and_bob : List (List ℕ)
alice_and_bob = codes "alice" ∷ codes "bob" ∷ []

abbrev pub alice_bob_and_carol : List (List ℕ)
alice_bob_and_carol = codes "alice" ∷ codes "bob" ∷ codes "carol" ∷ []

-- TdAs|8hTc/2c8c3h/9c/Kh
abbrev pub ten_ace : List ℕ
ten_ace = 33 ∷ 51 ∷ 26 ∷ 32 ∷ 0 ∷ 24 ∷ 6 ∷ 28 ∷ 46 ∷ []

-- 2d2h|3d3s/4c5c6c/7c/8d
abbrev pub twos_threes : List ℕ
twos_threes = 1 ∷ 2 ∷ 5 ∷ 7 ∷ 8 ∷ 12 ∷ 16 ∷ 20 ∷ 25 ∷ []

-- 2c3d|4c5d|6c7d/TsJsQs/Ks/As
abbrev pub royal_board : List ℕ
royal_board = 0 ∷ 5 ∷ 8 ∷ 13 ∷ 16 ∷ 21 ∷ 35 ∷ 39 ∷ 43 ∷ 47 ∷ 51 ∷ []

-- ---- the best five of several

-- ten choices of three of five cards
ten_choices : length (choices 3 (0 ∷ 1 ∷ 2 ∷ 3 ∷ 4 ∷ [])) ≡ 10
unfolding opened
ten_choices = refl

two_of_three : choices 2 (0 ∷ 1 ∷ 2 ∷ []) ≡ (0 ∷ 1 ∷ []) ∷ (0 ∷ 2 ∷ []) ∷ (1 ∷ 2 ∷ []) ∷ []
unfolding opened
two_of_three = refl

-- AcAdKcKdQcQd2s: aces and kings with a queen
abbrev pub aces_and_kings : Worth
aces_and_kings = record { category = 2; ranks = 12 ∷ 12 ∷ 11 ∷ 11 ∷ 10 ∷ [] }

three_pairs : best_worth (48 ∷ 49 ∷ 44 ∷ 45 ∷ 40 ∷ 41 ∷ 3 ∷ []) ≡ aces_and_kings
unfolding opened
three_pairs = refl

-- Ac2d3h4s5cKdQs: the lowest straight
abbrev pub five_high : Worth
five_high = record { category = 4; ranks = 3 ∷ 0 ∷ 0 ∷ 0 ∷ 0 ∷ [] }

lowest_straight : best_worth (48 ∷ 1 ∷ 6 ∷ 11 ∷ 12 ∷ 45 ∷ 43 ∷ []) ≡ five_high
unfolding opened
lowest_straight = refl

-- ---- lines

header : header_line (codes "m") (codes "l2.game") 1 ≡ codes "# name/game/hands m l2.game 1\n"
unfolding opened
header = refl

-- the second seat, at position 1, folds at once
folded_at_once : state_line two_players alice_and_bob 0 (record { deal = ten_ace; past = Fold ∷ [] }) ≡ codes "STATE:0:f:TdAs|8hTc:5|-5:alice|bob\n"
unfolding opened
folded_at_once = refl

-- the odd chip of a pot of 25 goes to the first of its winners by position
split_pot : state_line three_players alice_bob_and_carol 0 (record { deal = royal_board; past = Call ∷ Call ∷ Call ∷ Call ∷ Call ∷ Call ∷ Call ∷ Fold ∷ Call ∷ [] }) ≡ codes "STATE:0:cfc/cc/cc/cc:2c3d|4c5d|6c7d/TsJsQs/Ks/As:-5|3|2:alice|bob|carol\n"
unfolding opened
split_pot = refl

-- ---- logs

abbrev pub two_hands : Title
two_hands = record { name = codes "m"; game = codes "l2.game"; hands = 2 }

-- in the second hand the seats' positions have moved on by one
two_folds : log_lines two_players two_hands alice_and_bob (reverse (Deal 0 ten_ace ∷ Act 0 0 Fold ∷ Deal 1 twos_threes ∷ Act 1 0 Fold ∷ [])) ≡ codes "# name/game/hands m l2.game 2\nSTATE:0:f:TdAs|8hTc:5|-5:alice|bob\nSTATE:1:f:2d2h|3d3s:5|-5:bob|alice\nSCORE:0|0:alice|bob\n"
unfolding opened
two_folds = refl

-- a hand that runs has no line yet, and a match that goes on no score
one_running : log_lines two_players two_hands alice_and_bob (reverse (Deal 0 ten_ace ∷ Act 0 0 Fold ∷ Deal 1 twos_threes ∷ Act 1 0 Call ∷ [])) ≡ codes "# name/game/hands m l2.game 2\nSTATE:0:f:TdAs|8hTc:5|-5:alice|bob\n"
unfolding opened
one_running = refl

-- before the first deal there is the header alone
nothing_dealt : log_lines two_players two_hands alice_and_bob [] ≡ codes "# name/game/hands m l2.game 2\n"
unfolding opened
nothing_dealt = refl

-- the fold that ends a hand adds its line, and the last one the score behind it
fold_adds : log_added two_players 2 alice_and_bob (Deal 0 ten_ace ∷ []) (Act 0 0 Fold) ≡ codes "STATE:0:f:TdAs|8hTc:5|-5:alice|bob\n"
unfolding opened
fold_adds = refl

last_fold_adds : log_added two_players 2 alice_and_bob (Deal 1 twos_threes ∷ Act 0 0 Fold ∷ Deal 0 ten_ace ∷ []) (Act 1 0 Fold) ≡ codes "STATE:1:f:2d2h|3d3s:5|-5:bob|alice\nSCORE:0|0:alice|bob\n"
unfolding opened
last_fold_adds = refl

-- a hand that goes on adds nothing, nor does a deal: the line of the hand before isn't given again
call_adds_nothing : log_added two_players 2 alice_and_bob (Deal 0 ten_ace ∷ []) (Act 0 0 Call) ≡ []
unfolding opened
call_adds_nothing = refl

deal_adds_nothing : log_added two_players 2 alice_and_bob (Act 0 0 Fold ∷ Deal 0 ten_ace ∷ []) (Deal 1 twos_threes) ≡ []
unfolding opened
deal_adds_nothing = refl

-- a fold for a player who is away ends a hand as his own does, and a call for him leaves it running
fold_for_him_adds : log_added two_players 2 alice_and_bob (Deal 0 ten_ace ∷ []) (Away 0 0) ≡ codes "STATE:0:f:TdAs|8hTc:5|-5:alice|bob\n"
unfolding opened
fold_for_him_adds = refl

call_for_him_adds_nothing : log_added two_players 2 alice_and_bob (Act 0 0 Call ∷ Deal 0 ten_ace ∷ []) (Away 0 1) ≡ []
unfolding opened
call_for_him_adds_nothing = refl

-- and neither does what doesn't fit, though a finished hand stands there
second_fold_adds_nothing : log_added two_players 2 alice_and_bob (Act 0 0 Fold ∷ Deal 0 ten_ace ∷ []) (Act 0 0 Fold) ≡ []
unfolding opened
second_fold_adds_nothing = refl

-- ---- logs among other lines

-- each line has the front before it, and only the lines
two_lines_fronted : fronted (codes "2 L ") true (codes "a\nb\n") ≡ codes "2 L a\n2 L b\n"
two_lines_fronted = refl

-- no front within a line that has begun, or behind the last line
begun_line_goes_on : fronted (codes "L ") false (codes "a\nb\n") ≡ codes "a\nL b\n"
begun_line_goes_on = refl

no_front_of_no_line : fronted (codes "L ") true [] ≡ []
no_front_of_no_line = refl

-- ---- names

alice_is_a_name : IsName (codes "alice")
alice_is_a_name = record { least = omega arith; most = omega arith; bytes = (refl, (refl, (refl, (refl, (refl, tt))))) }

no_empty_name : IsName [] → ⊥
no_empty_name name = let least : 1 ≤ 0 = name.least in absurd (omega arith)

no_space_in_a_name : IsName (codes "a b") → ⊥
no_space_in_a_name name = let space : is_name_byte 32 ≡ true = name.bytes.1.0 in cc

bob_is_a_name : IsName (codes "bob")
bob_is_a_name = record { least = omega arith; most = omega arith; bytes = (refl, (refl, (refl, tt))) }

pub two_names : AreNames 2 alice_and_bob
unfolding IsDistinct
two_names = record { one_each = refl; each_name = (alice_is_a_name, (bob_is_a_name, tt)); distinct = ((refl, tt), (tt, tt)) }

not_the_same_twice : AreNames 2 (codes "bob" ∷ codes "bob" ∷ []) → ⊥
unfolding IsDistinct
not_the_same_twice names = let same : bytes_eq (codes "bob") (codes "bob") ≡ false = names.distinct.0.0 in cc

not_three_for_two : AreNames 2 alice_bob_and_carol → ⊥
not_three_for_two names = let count : ◌≡◌ {A = ℕ} 3 2 = names.one_each in absurd (omega (arith, count))

-- with each hand the positions move on by one seat
second_hand : names_by_position 3 1 alice_bob_and_carol ≡ codes "bob" ∷ codes "carol" ∷ codes "alice" ∷ []
second_hand = refl

plain_word : IsGameWord (codes "l2.g")
plain_word = record {
  least = omega arith;
  most = omega arith;
  printable = ((omega arith, omega arith), ((omega arith, omega arith), ((omega arith, omega arith), ((omega arith, omega arith), tt))));
}

no_space_in_a_word : IsGameWord (codes "a b") → ⊥
no_space_in_a_word word = let space : 33 ≤ 32 = word.printable.1.0.0 in absurd (omega arith)

no_empty_word : IsGameWord [] → ⊥
no_empty_word word = let least : 1 ≤ 0 = word.least in absurd (omega arith)
