-- The sample games and texts near them, by lines and words.
use Rattle.std.proofs.Common.{◌≡◌, ℕ, true, false, List, [], ◌∷◌, ◌++◌, Some, None, Ok, Err, refl, sym, ◌∙◌, codes, arith, lit≤, inl, inr}
use Rattle.std.specs.List.{join_with_byte}
use Rattle.std.specs.Fmt.{digits}
use Rattle.game_def.specs.Game.{Game, IsGame, stack_of, blind_of, raise_size_of, big_blind}
use Rattle.game_def.specs.Text.{without_cr, lines_of, lines, words}
use Rattle.game_def.specs.Fault.{fault_at, code_of, fault_text}
use Rattle.game_def.specs.Key.{key_named, same_key, is_nolimit, fits, allows}
use Rattle.game_def.specs.Entries.{is_set, values_of, values_or, line_of, has_nolimit}
use Rattle.game_def.specs.GameFile.{Names, number_of, Writes, Sets, AreSettings, Defines, IsGameFile}
use Rattle.game_def.specs.Reading.{number, numbers, values, without_sign, entry_with, with_line, gamedef_from, entries_from}
use Rattle.game_def.specs.WholeFile.{fault_of, all_passed, game_from, read_game}
use Rattle.game_def.proofs.Settings.{line_again}
use Rattle.game_def.proofs.Grammar.{read_is_file, file_is_read}
use Rattle.game_def.specs.declared.key.Key.TheVariants.{Limit, Nolimit, NumPlayers, Stack, Blind, RaiseSize, FirstPlayer, MaxRaises, NumSuits}
use Rattle.game_def.specs.declared.entry.Entry.{Entry}
use Rattle.game_def.specs.declared.fault_kind.FaultKind.TheVariants.{NoGamedef, NoEnd, UnknownKey, BadNumber, WrongCount, Unsupported, NoBlind, StackBelowBlind, NoRaiseSize, RepeatedKey}

-- ---- lines and words

pub cr_dropped : without_cr (codes "limit" ++ 13 ∷ []) ≡ codes "limit"
cr_dropped = refl

pub one_cr_dropped : without_cr (13 ∷ 13 ∷ []) ≡ 13 ∷ []
one_cr_dropped = refl

pub no_cr : without_cr (codes "limit") ≡ codes "limit"
no_cr = refl

-- four lines, of which the third is empty and the last lacks its LF and keeps its CR
pub four_lines : lines (codes "a" ++ 13 ∷ 10 ∷ codes "b" ++ 10 ∷ 10 ∷ codes "c" ++ 13 ∷ []) ≡ codes "a" ∷ codes "b" ∷ [] ∷ (codes "c" ++ 13 ∷ []) ∷ []
unfolding lines lines_of
four_lines = refl

pub one_line : lines (codes "a" ++ 10 ∷ []) ≡ codes "a" ∷ []
unfolding lines lines_of
one_line = refl

pub no_line : lines [] ≡ []
unfolding lines lines_of
no_line = refl

pub words_of_blinds : words (codes " blind=10" ++ 9 ∷ codes "5 # in chips") ≡ codes "blind" ∷ codes "=" ∷ codes "10" ∷ codes "5" ∷ []
unfolding words
words_of_blinds = refl

pub words_of_a_comment : words (codes "  # limit") ≡ []
unfolding words
words_of_a_comment = refl

-- ---- the sample game of limit for two

abbrev pub l2_lines : List (List ℕ)
l2_lines =
    codes "GAMEDEF" ∷ codes "limit" ∷ codes "numPlayers = 2" ∷ codes "numRounds = 4" ∷ codes "blind = 10 5" ∷ codes "raiseSize = 10 10 20 20" ∷ codes "firstPlayer = 2 1 1 1"
    ∷ codes "maxRaises = 3 4 4 4" ∷ codes "numSuits = 4" ∷ codes "numRanks = 13" ∷ codes "numHoleCards = 2" ∷ codes "numBoardCards = 0 3 1 1" ∷ codes "END GAMEDEF" ∷ [] ∷ []

abbrev pub l2_text : List ℕ
l2_text = join_with_byte 10 l2_lines

abbrev pub l2 : Game
l2 = record {
  players = 2;
  stacks = 2147483647 ∷ 2147483647 ∷ [];
  blinds = 10 ∷ 5 ∷ [];
  raise_sizes = Some (10 ∷ 10 ∷ 20 ∷ 20 ∷ []);
  first_players = 1 ∷ 0 ∷ 0 ∷ 0 ∷ [];
  max_raises = 3 ∷ 4 ∷ 4 ∷ 4 ∷ [];
}

pub l2_read : read_game l2_text ≡ Ok l2
unfolding lines lines_of words key_named number numbers values without_sign entry_with with_line gamedef_from entries_from fault_of all_passed game_from read_game
l2_read = refl

pub l2_file : IsGameFile l2_text l2
l2_file = read_is_file l2_text l2 l2_read

-- L2 in capitals, with comments and empty lines and without =, and with more behind the end
abbrev pub loud_text : List ℕ
loud_text = join_with_byte 10 (codes "# limit for two" ∷ [] ∷ codes "  GAMEDEF # from here" ∷ codes "LIMIT" ∷ codes "NUMPLAYERS 2" ∷ codes "NUMROUNDS 04" ∷ codes "BLIND 10 5" ∷ codes "RAISESIZE 10 10 20 20" ∷ [] ∷ codes "FIRSTPLAYER 2 1 1 1" ∷ codes "MAXRAISES 3 4 4 4" ∷ codes "NUMSUITS 4" ∷ codes "NUMRANKS 13" ∷ codes "NUMHOLECARDS 2" ∷ codes "NUMBOARDCARDS 0 3 1 1" ∷ codes " END  GAMEDEF" ∷ codes "numPlayers 3" ∷ [])

pub loud_read : read_game loud_text ≡ Ok l2
unfolding lines lines_of words key_named number numbers values without_sign entry_with with_line gamedef_from entries_from fault_of all_passed game_from read_game
loud_read = refl

pub loud_file : IsGameFile loud_text l2
loud_file = read_is_file loud_text l2 loud_read

-- ---- the sample game of no-limit for three

abbrev pub n3_text : List ℕ
n3_text = join_with_byte 10 (codes "GAMEDEF" ∷ codes "nolimit" ∷ codes "numPlayers = 3" ∷ codes "numRounds = 4" ∷ codes "stack = 1000 150 5000" ∷ codes "blind = 50 100 0" ∷ codes "firstPlayer = 3 1 1 1" ∷ codes "numSuits = 4" ∷ codes "numRanks = 13" ∷ codes "numHoleCards = 2" ∷ codes "numBoardCards = 0 3 1 1" ∷ codes "END GAMEDEF" ∷ [])

abbrev pub n3 : Game
n3 = record {
  players = 3;
  stacks = 1000 ∷ 150 ∷ 5000 ∷ [];
  blinds = 50 ∷ 100 ∷ 0 ∷ [];
  raise_sizes = None;
  first_players = 2 ∷ 0 ∷ 0 ∷ 0 ∷ [];
  max_raises = 255 ∷ 255 ∷ 255 ∷ 255 ∷ [];
}

pub n3_read : read_game n3_text ≡ Ok n3
unfolding lines lines_of words key_named number numbers values without_sign entry_with with_line gamedef_from entries_from fault_of all_passed game_from read_game
n3_read = refl

pub n3_file : IsGameFile n3_text n3
n3_file = read_is_file n3_text n3 n3_read

pub stack_in_n3 : stack_of n3 1 ≡ 150
stack_in_n3 = refl

pub blind_in_n3 : blind_of n3 0 ≡ 50
blind_in_n3 = refl

pub big_blind_in_n3 : big_blind n3 ≡ 100
big_blind_in_n3 = refl

pub big_blind_in_l2 : big_blind l2 ≡ 10
big_blind_in_l2 = refl

pub size_in_n3 : raise_size_of n3 0 ≡ None
size_in_n3 = refl

pub size_in_l2 : raise_size_of l2 2 ≡ Some 20
size_in_l2 = refl

pub l2_game : IsGame l2
l2_game = l2_file.defines.is_game

-- a stack that is the greatest blind
pub blind_as_stack-none : IsGame (record n3 { stacks = 1000 ∷ 100 ∷ 5000 ∷ [] }) → ⊥
blind_as_stack-none game = let above = game.stacks_above.1.0 in omega arith

pub no_blind-none : IsGame (record n3 { blinds = 0 ∷ 0 ∷ 0 ∷ [] }) → ⊥
no_blind-none game = let some = game.some_blind in omega arith

pub fourth_of_three-none : IsGame (record n3 { first_players = 3 ∷ 0 ∷ 0 ∷ 0 ∷ [] }) → ⊥
fourth_of_three-none game = let plays = game.firsts_play.0 in omega arith

pub free_raise-none : IsGame (record l2 { raise_sizes = Some (10 ∷ 10 ∷ 0 ∷ 20 ∷ []) }) → ⊥
free_raise-none game = let sized = game.some_size.1.1.0 in omega arith

-- ---- words and keys

pub named_in_capitals : Names (codes "stack") (codes "StAcK")
named_in_capitals = refl

pub longer_name-none : Names (codes "stack") (codes "stacks") → ⊥
longer_name-none names = cc

pub zeros_in_front : number_of (codes "0123") ≡ 123
zeros_in_front = refl

pub greatest_number : number_of (codes "9999999999") ≡ 9999999999
greatest_number = refl

pub ten_digits : Writes (codes "0000000123") 123
ten_digits = record { digits = refl; least = lit≤ tt; most = lit≤ tt; value = refl }

pub eleven_digits-none : (n : ℕ) → Writes (codes "00000000123") n → ⊥
eleven_digits-none n writes = let most = writes.most in omega arith

pub minus-none : (n : ℕ) → Writes (codes "-5") n → ⊥
minus-none n writes = let digits = writes.digits in cc

pub no_digit-none : (n : ℕ) → Writes [] n → ⊥
no_digit-none n writes = let least = writes.least in omega arith

pub players_named : key_named (codes "NumPlayers") ≡ Some NumPlayers
unfolding key_named
players_named = refl

pub limit_five-none : key_named (codes "limit5") ≡ None
unfolding key_named
limit_five-none = refl

pub limit_twice : same_key Limit Nolimit ≡ true
limit_twice = refl

pub stack_apart : same_key Stack Blind ≡ false
stack_apart = refl

pub nolimit_told : is_nolimit Nolimit ≡ true
nolimit_told = refl

pub limit_told : is_nolimit Limit ≡ false
limit_told = refl

pub most_chips_fit : fits Stack 2147483647 ≡ true
most_chips_fit = refl

pub more_chips-none : fits RaiseSize 2147483648 ≡ false
more_chips-none = refl

pub tenth_position : fits FirstPlayer 10 ≡ true
tenth_position = refl

pub position_zero-none : fits FirstPlayer 0 ≡ false
position_zero-none = refl

pub most_raises : fits MaxRaises 255 ≡ true
most_raises = refl

pub more_raises-none : fits MaxRaises 256 ≡ false
more_raises-none = refl

pub any_suits : fits NumSuits 9999999999 ≡ true
any_suits = refl

pub limit_alone : allows Limit 0 ≡ true
limit_alone = refl

pub limit_of_one-none : allows Limit 1 ≡ false
limit_of_one-none = refl

pub two_counts-none : allows NumPlayers 2 ≡ false
two_counts-none = refl

pub ten_blinds : allows Blind 10 ≡ true
ten_blinds = refl

pub eleven_blinds-none : allows Blind 11 ≡ false
eleven_blinds-none = refl

pub stack_of_none-none : allows Stack 0 ≡ false
stack_of_none-none = refl

-- ---- entries

abbrev pub blinds_at : ℕ → Entry
blinds_at line = record { key = Blind; line = line; values = record { items = 10 ∷ 5 ∷ [] } }

abbrev pub nolimit_at : ℕ → Entry
nolimit_at line = record { key = Nolimit; line = line; values = record { items = [] } }

abbrev pub two_entries : List Entry
two_entries = nolimit_at 2 ∷ blinds_at 5 ∷ []

pub limit_set : is_set two_entries Limit ≡ true
limit_set = refl

pub stack_unset : is_set two_entries Stack ≡ false
stack_unset = refl

pub blinds_found : values_of two_entries Blind ≡ Some (10 ∷ 5 ∷ [])
blinds_found = refl

pub stacks_default : values_or two_entries Stack (7 ∷ []) ≡ 7 ∷ []
stacks_default = refl

pub line_of_blinds : line_of two_entries Blind 9 ≡ 5
line_of_blinds = refl

pub line_of_the_end : line_of two_entries Stack 9 ≡ 9
line_of_the_end = refl

pub nolimit_found : has_nolimit two_entries ≡ true
nolimit_found = refl

pub nolimit_missing : has_nolimit (blinds_at 2 ∷ []) ≡ false
nolimit_missing = refl

pub blinds_set : Sets (codes "Blind" ∷ codes "=" ∷ codes "10" ∷ codes "05" ∷ []) (blinds_at 5)
blinds_set = record {
  name = codes "Blind";
  values = codes "10" ∷ codes "05" ∷ [];
  form = inr refl;
  named = refl;
  written = (record { digits = refl; least = lit≤ tt; most = lit≤ tt; value = refl }, (record { digits = refl; least = lit≤ tt; most = lit≤ tt; value = refl }, tt));
  fitting = refl;
  count = refl;
}

-- a second =
pub second_sign-none : (entry : Entry) → Sets (codes "blind" ∷ codes "=" ∷ codes "=" ∷ codes "5" ∷ []) entry → ⊥
unfolding key_named number numbers values without_sign entry_with with_line
second_sign-none entry sets = let read = line_again [] (codes "blind" ∷ codes "=" ∷ codes "=" ∷ codes "5" ∷ []) entry sets refl in cc

-- a value behind limit
pub limit_one-none : (entry : Entry) → Sets (codes "limit" ∷ codes "1" ∷ []) entry → ⊥
unfolding key_named number numbers values without_sign entry_with with_line
limit_one-none entry sets = let read = line_again [] (codes "limit" ∷ codes "1" ∷ []) entry sets refl in cc

-- a comment and a setting, behind one line
pub two_settings : AreSettings 1 (codes "# no limit" ∷ codes "nolimit" ∷ []) (nolimit_at 3 ∷ [])
unfolding words
two_settings =
    inl (refl, inr (nolimit_at 3, [], refl, record { name = codes "nolimit"; values = []; form = inl refl; named = refl; written = tt; fitting = refl; count = refl }, refl, refl))

-- the line of another setting
pub other_line-none : AreSettings 1 (codes "nolimit" ∷ []) (nolimit_at 3 ∷ []) → ⊥
unfolding words
other_line-none settings =
    elim settings [
      | inl blank ↦ let none = blank.0 in cc
      | inr set ↦ let at = set.4 in let same = set.2 in cc
    ]

pub l2_defined : (entries : List Entry) × Defines entries l2
l2_defined = (l2_file.entries, l2_file.defines)

-- nothing is said of the rounds
pub no_rounds-none : (game : Game) → Defines two_entries game → ⊥
no_rounds-none game defines = let rounds = defines.rounds in cc

-- ---- faults

pub code_of_the_first : code_of NoGamedef ≡ 10
code_of_the_first = refl

pub code_of_the_last : code_of RepeatedKey ≡ 19
code_of_the_last = refl

pub fault_printed : fault_text (fault_at 5 StackBelowBlind) ≡ codes "17 StackBelowBlind 5"
unfolding digits
fault_printed = refl

pub no_text : read_game [] ≡ Err (fault_at 0 NoGamedef)
unfolding lines lines_of words key_named number numbers values without_sign entry_with with_line gamedef_from entries_from fault_of all_passed game_from read_game
no_text = refl

-- a stack below the greatest blind, told at its own line
abbrev pub stack_at_blind_text : List ℕ
stack_at_blind_text = join_with_byte 10 (codes "GAMEDEF" ∷ codes "nolimit" ∷ codes "numPlayers = 2" ∷ codes "numRounds = 4" ∷ codes "stack = 100 100" ∷ codes "blind = 100 50" ∷ codes "firstPlayer = 2 1 1 1" ∷ codes "numSuits = 4" ∷ codes "numRanks = 13" ∷ codes "numHoleCards = 2" ∷ codes "numBoardCards = 0 3 1 1" ∷ codes "END GAMEDEF" ∷ [] ∷ [])

pub stack_at_blind : read_game stack_at_blind_text ≡ Err (fault_at 5 StackBelowBlind)
unfolding lines lines_of words key_named number numbers values without_sign entry_with with_line gamedef_from entries_from fault_of all_passed game_from read_game
stack_at_blind = refl

pub stack_at_blind-none : (game : Game) → IsGameFile stack_at_blind_text game → ⊥
stack_at_blind-none game file = let read = sym stack_at_blind ∙ file_is_read stack_at_blind_text game file in cc

-- one suit
abbrev pub one_suit_text : List ℕ
one_suit_text = join_with_byte 10 (codes "GAMEDEF" ∷ codes "limit" ∷ codes "numPlayers = 2" ∷ codes "numRounds = 4" ∷ codes "blind = 10 5" ∷ codes "raiseSize = 10 10 20 20" ∷ codes "firstPlayer = 2 1 1 1" ∷ codes "maxRaises = 3 4 4 4" ∷ codes "numSuits = 1" ∷ codes "numRanks = 13" ∷ codes "numHoleCards = 2" ∷ codes "numBoardCards = 0 3 1 1" ∷ codes "END GAMEDEF" ∷ [] ∷ [])

pub one_suit : read_game one_suit_text ≡ Err (fault_at 9 Unsupported)
unfolding lines lines_of words key_named number numbers values without_sign entry_with with_line gamedef_from entries_from fault_of all_passed game_from read_game
one_suit = refl

pub one_suit-none : (game : Game) → IsGameFile one_suit_text game → ⊥
one_suit-none game file = let read = sym one_suit ∙ file_is_read one_suit_text game file in cc

-- no END GAMEDEF
abbrev pub no_end_text : List ℕ
no_end_text = join_with_byte 10 (codes "GAMEDEF" ∷ codes "limit" ∷ [] ∷ [])

pub no_end : read_game no_end_text ≡ Err (fault_at 2 NoEnd)
unfolding lines lines_of words key_named number numbers values without_sign entry_with with_line gamedef_from entries_from fault_of all_passed game_from read_game
no_end = refl

pub no_end-none : (game : Game) → IsGameFile no_end_text game → ⊥
no_end-none game file = let read = sym no_end ∙ file_is_read no_end_text game file in cc

-- another word behind GAMEDEF
abbrev pub more_behind_gamedef_text : List ℕ
more_behind_gamedef_text = join_with_byte 10 ([] ∷ codes "GAMEDEF 2" ∷ [])

pub more_behind_gamedef : read_game more_behind_gamedef_text ≡ Err (fault_at 2 NoGamedef)
unfolding lines lines_of words key_named number numbers values without_sign entry_with with_line gamedef_from entries_from fault_of all_passed game_from read_game
more_behind_gamedef = refl

pub more_behind_gamedef-none : (game : Game) → IsGameFile more_behind_gamedef_text game → ⊥
more_behind_gamedef-none game file = let read = sym more_behind_gamedef ∙ file_is_read more_behind_gamedef_text game file in cc

-- an unknown key before a line at fault
abbrev pub unknown_text : List ℕ
unknown_text = join_with_byte 10 (codes "GAMEDEF" ∷ codes "stacks 1" ∷ codes "limit 1" ∷ [])

pub unknown : read_game unknown_text ≡ Err (fault_at 2 UnknownKey)
unfolding lines lines_of words key_named number numbers values without_sign entry_with with_line gamedef_from entries_from fault_of all_passed game_from read_game
unknown = refl

pub unknown-none : (game : Game) → IsGameFile unknown_text game → ⊥
unknown-none game file = let read = sym unknown ∙ file_is_read unknown_text game file in cc

-- limit and nolimit, and then no number
abbrev pub repeated_text : List ℕ
repeated_text = join_with_byte 10 (codes "GAMEDEF" ∷ codes "limit" ∷ codes "nolimit x" ∷ [])

pub repeated : read_game repeated_text ≡ Err (fault_at 3 RepeatedKey)
unfolding lines lines_of words key_named number numbers values without_sign entry_with with_line gamedef_from entries_from fault_of all_passed game_from read_game
repeated = refl

pub repeated-none : (game : Game) → IsGameFile repeated_text game → ⊥
repeated-none game file = let read = sym repeated ∙ file_is_read repeated_text game file in cc

-- no number, and then a wrong count
abbrev pub no_number_text : List ℕ
no_number_text = join_with_byte 10 (codes "GAMEDEF" ∷ codes "limit x" ∷ [])

pub no_number : read_game no_number_text ≡ Err (fault_at 2 BadNumber)
unfolding lines lines_of words key_named number numbers values without_sign entry_with with_line gamedef_from entries_from fault_of all_passed game_from read_game
no_number = refl

pub no_number-none : (game : Game) → IsGameFile no_number_text game → ⊥
no_number-none game file = let read = sym no_number ∙ file_is_read no_number_text game file in cc

-- two numbers of players
abbrev pub two_players_text : List ℕ
two_players_text = join_with_byte 10 (codes "GAMEDEF" ∷ codes "numPlayers 2 2" ∷ [])

pub two_players : read_game two_players_text ≡ Err (fault_at 2 WrongCount)
unfolding lines lines_of words key_named number numbers values without_sign entry_with with_line gamedef_from entries_from fault_of all_passed game_from read_game
two_players = refl

pub two_players-none : (game : Game) → IsGameFile two_players_text game → ⊥
two_players-none game file = let read = sym two_players ∙ file_is_read two_players_text game file in cc

-- three blinds for two, told before a first position above the players
abbrev pub blind_for_three_text : List ℕ
blind_for_three_text = join_with_byte 10 (codes "GAMEDEF" ∷ codes "numPlayers 2" ∷ codes "numRounds 4" ∷ codes "numSuits 4" ∷ codes "numRanks 13" ∷ codes "numHoleCards 2" ∷ codes "numBoardCards 0 3 1 1" ∷ codes "blind 1 2 3" ∷ codes "firstPlayer 3 3 3 3" ∷ codes "END GAMEDEF" ∷ [])

pub blind_for_three : read_game blind_for_three_text ≡ Err (fault_at 8 WrongCount)
unfolding lines lines_of words key_named number numbers values without_sign entry_with with_line gamedef_from entries_from fault_of all_passed game_from read_game
blind_for_three = refl

pub blind_for_three-none : (game : Game) → IsGameFile blind_for_three_text game → ⊥
blind_for_three-none game file = let read = sym blind_for_three ∙ file_is_read blind_for_three_text game file in cc

-- no blind, told at the end
abbrev pub no_blinds_text : List ℕ
no_blinds_text = join_with_byte 10 (codes "GAMEDEF" ∷ codes "numPlayers 2" ∷ codes "numRounds 4" ∷ codes "numSuits 4" ∷ codes "numRanks 13" ∷ codes "numHoleCards 2" ∷ codes "numBoardCards 0 3 1 1" ∷ codes "END GAMEDEF" ∷ [])

pub no_blinds : read_game no_blinds_text ≡ Err (fault_at 8 NoBlind)
unfolding lines lines_of words key_named number numbers values without_sign entry_with with_line gamedef_from entries_from fault_of all_passed game_from read_game
no_blinds = refl

pub no_blinds-none : (game : Game) → IsGameFile no_blinds_text game → ⊥
no_blinds-none game file = let read = sym no_blinds ∙ file_is_read no_blinds_text game file in cc

-- a limit game without raise sizes, told at the end
abbrev pub no_size_text : List ℕ
no_size_text = join_with_byte 10 (codes "GAMEDEF" ∷ codes "numPlayers 2" ∷ codes "numRounds 4" ∷ codes "numSuits 4" ∷ codes "numRanks 13" ∷ codes "numHoleCards 2" ∷ codes "numBoardCards 0 3 1 1" ∷ codes "blind 2 1" ∷ codes "END GAMEDEF" ∷ [])

pub no_size : read_game no_size_text ≡ Err (fault_at 9 NoRaiseSize)
unfolding lines lines_of words key_named number numbers values without_sign entry_with with_line gamedef_from entries_from fault_of all_passed game_from read_game
no_size = refl

pub no_size-none : (game : Game) → IsGameFile no_size_text game → ⊥
no_size-none game file = let read = sym no_size ∙ file_is_read no_size_text game file in cc
