-- The steps of reading and the tests of a whole file, at single words, lines and entries.
use Rattle.std.proofs.Common.{◌≡◌, ℕ, true, false, List, [], ◌∷◌, length, replicate, Some, None, Result, Ok, Err, refl, codes, rules}
use Rattle.std.specs.List.{IsDistinct}
use Rattle.game_def.specs.Game.{Game, IsGame, most_chips}
use Rattle.game_def.specs.GameDefInside.{game_of as seen_as, inside_of, IsKept}
use Rattle.game_def.specs.Text.{lines_of, is_blank as is_blank_byte, ends_word, goes_on, words_from}
use Rattle.game_def.specs.Fault.{name_of as name_of_fault, fault_at}
use Rattle.game_def.specs.Key.{name_of, keys, place_of}
use Rattle.game_def.specs.Entries.{entry_of, AreEntries}
use Rattle.game_def.specs.Reading.{is_number, number, numbers, counted, values, is_sign, without_sign, entry_with, with_line, is_blank, named_first, is_gamedef, is_end, told_at, first_line, gamedef_from, entries_from}
use Rattle.game_def.specs.WholeFile.{single, players_of, has_values, has_count, each_passes, greatest_blind, test, required, counts, playable, fault_of, passed, all_passed, game_of, game_from}
use Rattle.game_def.specs.Text.{words}
use Rattle.game_def.specs.Key.{key_named}
use Rattle.game_def.proofs.Passing.{passing_defines}
use Rattle.game_def.specs.declared.key.Key.{Key}
use Rattle.game_def.specs.declared.key.Key.TheVariants.{Limit, Nolimit, NumPlayers, NumRounds, Stack, Blind, RaiseSize, FirstPlayer, MaxRaises, NumSuits, NumRanks, NumHoleCards, NumBoardCards}
use Rattle.game_def.specs.declared.entry.Entry.{Entry}
use Rattle.game_def.specs.declared.fault_kind.FaultKind.{FaultKind}
use Rattle.game_def.specs.declared.fault_kind.FaultKind.TheVariants.{NoGamedef, NoEnd, BadNumber, WrongCount, Unsupported, NoBlind, StackBelowBlind, NoRaiseSize, RepeatedKey}

-- ---- bytes

pub two_pieces : lines_of (codes "a" ∷ [] ∷ []) ≡ codes "a" ∷ []
unfolding lines_of
two_pieces = refl

pub tab_is_blank : is_blank_byte 9 ≡ true
tab_is_blank = refl

pub cr_is_not_blank : is_blank_byte 13 ≡ false
cr_is_not_blank = refl

pub sign_ends_a_word : ends_word 61 ≡ true
sign_ends_a_word = refl

pub letter_ends_none : ends_word 97 ≡ false
letter_ends_none = refl

pub word_goes_on : goes_on (codes "b c") ≡ true
word_goes_on = refl

pub word_ends : goes_on (codes "=b") ≡ false
word_ends = refl

pub letter_joined : words_from 97 (codes "b") (codes "b" ∷ []) ≡ codes "ab" ∷ []
letter_joined = refl

pub letter_apart : words_from 97 (codes " b") (codes "b" ∷ []) ≡ codes "a" ∷ codes "b" ∷ []
letter_apart = refl

-- ---- names and places

pub name_of_a_key : name_of NumHoleCards ≡ codes "numholecards"
name_of_a_key = refl

pub name_of_a_fault : name_of_fault NoEnd ≡ codes "NoEnd"
name_of_a_fault = refl

pub thirteen_keys : length keys ≡ 13
thirteen_keys = refl

pub last_place : place_of NumBoardCards ≡ 11
last_place = refl

pub greatest_amount : most_chips ≡ 2147483647
greatest_amount = refl

-- ---- a line's words

pub digits_only : is_number (codes "007") ≡ true
digits_only = refl

pub plus_is_no_digit : is_number (codes "+7") ≡ false
plus_is_no_digit = refl

pub number_read : number Stack (codes "007") ≡ Ok 7
unfolding number
number_read = refl

pub number_refused : number MaxRaises (codes "256") ≡ Err BadNumber
unfolding number
number_refused = refl

pub numbers_read : numbers Blind (codes "10" ∷ codes "5" ∷ []) ≡ Ok (10 ∷ 5 ∷ [])
unfolding number numbers
numbers_read = refl

pub one_counted : counted NumPlayers (2 ∷ []) ≡ Ok (2 ∷ [])
one_counted = refl

pub two_refused : counted NumPlayers (2 ∷ 3 ∷ []) ≡ Err WrongCount
two_refused = refl

-- a word that is no number is told before a wrong count
pub number_first : values NumPlayers (codes "2" ∷ codes "x" ∷ []) ≡ Err BadNumber
unfolding number numbers values
number_first = refl

pub sign : is_sign (codes "=") ≡ true
sign = refl

pub two_signs : is_sign (codes "==") ≡ false
two_signs = refl

pub sign_passed : without_sign (codes "=" ∷ codes "5" ∷ []) ≡ codes "5" ∷ []
unfolding without_sign
sign_passed = refl

abbrev pub five_chips : Entry
five_chips = record { key = Blind; line = 4; values = record { items = 5 ∷ [] } }

pub entry_read : entry_with [] 4 (codes "=" ∷ codes "5" ∷ []) (Some Blind) ≡ Ok five_chips
unfolding number numbers values without_sign entry_with
entry_read = refl

pub entry_repeated : entry_with (five_chips ∷ []) 6 (codes "x" ∷ []) (Some Blind) ≡ Err RepeatedKey
unfolding number numbers values without_sign entry_with
entry_repeated = refl

pub line_added : with_line [] 4 (codes "BLIND" ∷ codes "5" ∷ []) ≡ Ok (five_chips ∷ [])
unfolding key_named number numbers values without_sign entry_with with_line
line_added = refl

pub line_passed : with_line (five_chips ∷ []) 5 [] ≡ Ok (five_chips ∷ [])
unfolding with_line
line_passed = refl

-- ---- lines

pub blank : is_blank [] ≡ true
blank = refl

pub name_in_front : named_first (codes "end") (codes "End" ∷ codes "x" ∷ []) ≡ Some (codes "x" ∷ [])
name_in_front = refl

pub other_name_in_front : named_first (codes "end") (codes "ends" ∷ []) ≡ None
other_name_in_front = refl

pub head : is_gamedef (codes "Gamedef" ∷ []) ≡ true
head = refl

pub head_with_more : is_gamedef (codes "GAMEDEF" ∷ codes "x" ∷ []) ≡ false
head_with_more = refl

pub foot : is_end (codes "END" ∷ codes "GAMEDEF" ∷ []) ≡ true
foot = refl

pub foot_without_gamedef : is_end (codes "END" ∷ []) ≡ false
foot_without_gamedef = refl

pub told_at_seven : told_at 7 (let fault : Result ℕ FaultKind = Err BadNumber in fault) ≡ Err (fault_at 7 BadNumber)
told_at_seven = refl

pub head_found : first_line 2 (codes "GAMEDEF" ∷ []) (codes "limit" ∷ []) (Err (fault_at 3 NoGamedef)) ≡ Ok (2, codes "limit" ∷ [])
head_found = refl

pub head_after_a_comment : gamedef_from 0 (codes "#" ∷ codes "GAMEDEF" ∷ codes "limit" ∷ []) ≡ Ok (2, codes "limit" ∷ [])
unfolding words gamedef_from
head_after_a_comment = refl

pub entries_found : entries_from 3 [] (codes "blind 5" ∷ codes "END GAMEDEF" ∷ codes "x" ∷ []) ≡ Ok (five_chips ∷ [], 5)
unfolding words key_named number numbers values without_sign entry_with with_line entries_from
entries_found = refl

pub entries_unended : entries_from 3 [] (codes "blind 5" ∷ []) ≡ Err (fault_at 4 NoEnd)
unfolding words key_named number numbers values without_sign entry_with with_line entries_from
entries_unended = refl

-- ---- the whole file

abbrev pub entry : Key → ℕ → List ℕ → Entry
entry key line found = record { key = key; line = line; values = record { items = found } }

-- two players of no-limit without stacks
abbrev pub plain : List Entry
plain =
    entry Nolimit 2 [] ∷ entry NumPlayers 3 (2 ∷ []) ∷ entry NumRounds 4 (4 ∷ []) ∷ entry NumSuits 5 (4 ∷ []) ∷ entry NumRanks 6 (13 ∷ []) ∷ entry NumHoleCards 7 (2 ∷ [])
    ∷ entry NumBoardCards 8 (0 ∷ 3 ∷ 1 ∷ 1 ∷ []) ∷ entry Blind 9 (2 ∷ 1 ∷ []) ∷ []

pub plain_entries : AreEntries plain
unfolding IsDistinct
plain_entries = record { once = search rules; fitting = search rules }

-- limit behind nolimit
pub limit_too-none : AreEntries (entry Nolimit 2 [] ∷ entry Limit 3 [] ∷ []) → ⊥
unfolding IsDistinct
limit_too-none are = let apart = are.once.0.0 in cc

-- a first position 0
pub position_zero-none : AreEntries (entry FirstPlayer 2 (0 ∷ 1 ∷ 1 ∷ 1 ∷ []) ∷ []) → ⊥
position_zero-none are = let fit = are.fitting.0 in cc

pub entry_of_rounds : entry_of plain NumRounds ≡ Some (entry NumRounds 4 (4 ∷ []))
entry_of_rounds = refl

pub single_value : single (Some (2 ∷ [])) ≡ 2
single_value = refl

pub no_single_value : single (Some (2 ∷ 3 ∷ [])) ≡ 0
no_single_value = refl

pub two_players : players_of plain ≡ 2
two_players = refl

pub missing_players : players_of [] ≡ 0
missing_players = refl

pub board : has_values (0 ∷ 3 ∷ 1 ∷ 1 ∷ []) (Some (0 ∷ 3 ∷ 1 ∷ 1 ∷ [])) ≡ true
board = refl

pub missing_board : has_values (0 ∷ 3 ∷ 1 ∷ 1 ∷ []) None ≡ false
missing_board = refl

pub missing_stacks_counted : has_count 2 None ≡ true
missing_stacks_counted = refl

pub three_for_two : has_count 2 (Some (1 ∷ 2 ∷ 3 ∷ [])) ≡ false
three_for_two = refl

pub given_for_none : each_passes (λ value. false) true None ≡ true
given_for_none = refl

pub each_given : each_passes is_blank_byte true (Some (32 ∷ 33 ∷ [])) ≡ false
each_given = refl

pub greatest_of_two : greatest_blind plain ≡ 2
greatest_of_two = refl

pub required_keys : required plain
    ≡ test true Unsupported NumPlayers ∷ test true Unsupported NumRounds ∷ test true Unsupported NumSuits ∷ test true Unsupported NumRanks ∷ test true Unsupported NumHoleCards ∷ test true Unsupported NumBoardCards ∷ []
required_keys = refl

pub counts_of_three : counts (entry NumPlayers 2 (3 ∷ []) ∷ entry Blind 3 (2 ∷ 1 ∷ []) ∷ [])
    ≡ test true WrongCount Stack ∷ test false WrongCount Blind ∷ test true WrongCount RaiseSize ∷ test true WrongCount FirstPlayer ∷ test true WrongCount MaxRaises ∷ []
counts_of_three = refl

pub playable_nothing : playable [] ≡ test true Unsupported FirstPlayer ∷ test false NoBlind Blind ∷ test true StackBelowBlind Stack ∷ test false NoRaiseSize RaiseSize ∷ []
playable_nothing = refl

pub missing_key_at_the_foot : fault_of plain 10 (Some (test false NoRaiseSize RaiseSize)) ≡ Err (fault_at 10 NoRaiseSize)
unfolding fault_of
missing_key_at_the_foot = refl

pub first_failing_told : passed plain 10 (test true Unsupported NumPlayers ∷ test false NoBlind Blind ∷ test false NoRaiseSize RaiseSize ∷ []) ≡ Err (fault_at 9 NoBlind)
unfolding fault_of
first_failing_told = refl

pub plain_passes : all_passed plain 10 ≡ Ok tt
unfolding fault_of all_passed
plain_passes = refl

abbrev pub plain_game : Game
plain_game = record {
  players = 2;
  stacks = 2147483647 ∷ 2147483647 ∷ [];
  blinds = 2 ∷ 1 ∷ [];
  raise_sizes = None;
  first_players = 0 ∷ 0 ∷ 0 ∷ 0 ∷ [];
  max_raises = 255 ∷ 255 ∷ 255 ∷ 255 ∷ [];
}

pub plain_defaults : game_of plain ≡ plain_game
plain_defaults = refl

pub plain_read : game_from plain 10 ≡ Ok plain_game
unfolding fault_of all_passed game_from
plain_read = refl

-- the fields of a game definition keep its game
pub fields_seen : seen_as (inside_of plain_game) ≡ plain_game
fields_seen = refl

pub plain_is_game : IsGame plain_game
plain_is_game = (passing_defines plain 10 plain_entries plain_passes).is_game

pub plain_kept : IsKept (inside_of plain_game)
plain_kept = record { game = plain_is_game; stacks = refl; blinds = refl }

-- a stack behind the last player
pub third_stack-none : IsKept (record (inside_of plain_game) { stacks = 5 ∷ 5 ∷ 5 ∷ replicate 7 0 }) → ⊥
third_stack-none kept = let stacks = kept.stacks in cc
