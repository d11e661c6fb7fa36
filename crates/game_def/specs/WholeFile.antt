-- The tests of a whole game file behind those of its lines, and the game of a file that passes them.
use Rattle.std.specs.Prelude.{ℕ, ◌-◌, Bool, true, false, not, ◌==◌, ◌&&◌, ◌||◌, nat_le, nat_lt, List, [], ◌∷◌, length, map, fold, max, replicate, Option, Some, None, Result, Ok, Err, if◌then◌else◌}
use Rattle.std.specs.List.{find, list_all}
use Rattle.std.specs.Str.{bytes_eq}
use Rattle.game_def.specs.Game.{Game, most_chips}
use Rattle.game_def.specs.Entries.{values_of, values_or, line_of, has_nolimit}
use Rattle.game_def.specs.Text.{lines}
use Rattle.game_def.specs.Fault.{fault_at}
use Rattle.game_def.specs.Reading.{◌>>=◌, gamedef_from, entries_from}
use Rattle.game_def.specs.declared.key.Key.{Key}
use Rattle.game_def.specs.declared.key.Key.TheVariants.{NumPlayers, NumRounds, Stack, Blind, RaiseSize, FirstPlayer, MaxRaises, NumSuits, NumRanks, NumHoleCards, NumBoardCards}
use Rattle.game_def.specs.declared.entry.Entry.{Entry}
use Rattle.game_def.specs.declared.fault_kind.FaultKind.{FaultKind}
use Rattle.game_def.specs.declared.fault_kind.FaultKind.TheVariants.{WrongCount, Unsupported, NoBlind, StackBelowBlind, NoRaiseSize}
use Rattle.game_def.specs.declared.fault.GameFault.{GameFault}
use Rattle.game_def.specs.declared.test.Test.{Test}

-- the one value of a key, or 0
abbrev pub single : Option (List ℕ) → ℕ
single None = 0
single (Some []) = 0
single (Some (value ∷ [])) = value
single (Some (value ∷ next ∷ more)) = 0

-- the number of players, 0 where it is missing
abbrev pub players_of : List Entry → ℕ
players_of entries = single (values_of entries NumPlayers)

-- whether a key has just these values
abbrev pub has_values : List ℕ → Option (List ℕ) → Bool
has_values wanted None = false
has_values wanted (Some values) = bytes_eq values wanted

-- whether a key that is set has so many values
abbrev pub has_count : ℕ → Option (List ℕ) → Bool
has_count count None = true
has_count count (Some values) = length values == count

-- whether each value of a key passes; for a missing key the answer is given
abbrev pub each_passes : (ℕ → Bool) → Bool → Option (List ℕ) → Bool
each_passes passes otherwise None = otherwise
each_passes passes otherwise (Some values) = list_all passes values

-- the greatest blind, 0 where no blind is set
abbrev pub greatest_blind : List Entry → ℕ
greatest_blind entries = fold max 0 (values_or entries Blind [])

-- a test, the fault where it fails, and the key at whose line that is told
abbrev pub test : Bool → FaultKind → Key → Test
test passes kind key = record { passes = passes; kind = kind; key = key }

-- the keys that must be there
abbrev pub required : List Entry → List Test
required entries =
    test (nat_le 2 (players_of entries) && nat_le (players_of entries) 10) Unsupported NumPlayers
    ∷ test (has_values (4 ∷ []) (values_of entries NumRounds)) Unsupported NumRounds
    ∷ test (has_values (4 ∷ []) (values_of entries NumSuits)) Unsupported NumSuits
    ∷ test (has_values (13 ∷ []) (values_of entries NumRanks)) Unsupported NumRanks
    ∷ test (has_values (2 ∷ []) (values_of entries NumHoleCards)) Unsupported NumHoleCards
    ∷ test (has_values (0 ∷ 3 ∷ 1 ∷ 1 ∷ []) (values_of entries NumBoardCards)) Unsupported NumBoardCards
    ∷ []

-- the counts of values: one for each player, or one for each round
abbrev pub counts : List Entry → List Test
counts entries =
    test (has_count (players_of entries) (values_of entries Stack)) WrongCount Stack
    ∷ test (has_count (players_of entries) (values_of entries Blind)) WrongCount Blind
    ∷ test (has_count 4 (values_of entries RaiseSize)) WrongCount RaiseSize
    ∷ test (has_count 4 (values_of entries FirstPlayer)) WrongCount FirstPlayer
    ∷ test (has_count 4 (values_of entries MaxRaises)) WrongCount MaxRaises
    ∷ []

-- what makes a game of the values
abbrev pub playable : List Entry → List Test
playable entries =
    test (each_passes (λ position. nat_le position (players_of entries)) true (values_of entries FirstPlayer)) Unsupported FirstPlayer
    ∷ test (nat_le 1 (greatest_blind entries)) NoBlind Blind
    ∷ test (each_passes (λ stack. nat_lt (greatest_blind entries) stack) (nat_lt (greatest_blind entries) most_chips) (values_of entries Stack)) StackBelowBlind Stack
    ∷ test (has_nolimit entries || each_passes (λ size. nat_lt 0 size) false (values_of entries RaiseSize)) NoRaiseSize RaiseSize
    ∷ []

-- the first test that fails is told at the line of its key, or at that of END GAMEDEF where the key is missing
unfoldable pub fault_of : List Entry → ℕ → Option Test → Result (Unit {0}) GameFault
fault_of entries foot None = Ok tt
fault_of entries foot (Some failing) = Err (fault_at (line_of entries failing.key foot) failing.kind)

abbrev pub passed : List Entry → ℕ → List Test → Result (Unit {0}) GameFault
passed entries foot tests = fault_of entries foot (find (λ one. not one.passes) tests)

-- all tests in their order
unfoldable pub all_passed : List Entry → ℕ → Result (Unit {0}) GameFault
all_passed entries foot = do
  one ← passed entries foot (required entries)
  two ← passed entries foot (counts entries)
  passed entries foot (playable entries)

-- the game of a file that passes
abbrev pub game_of : List Entry → Game
game_of entries = record {
  players = players_of entries;
  stacks = values_or entries Stack (replicate (players_of entries) most_chips);
  blinds = values_or entries Blind (replicate (players_of entries) 0);
  raise_sizes = if has_nolimit entries then None else values_of entries RaiseSize;
  first_players = map (λ position. position - 1) (values_or entries FirstPlayer (replicate 4 1));
  max_raises = values_or entries MaxRaises (replicate 4 255);
}

-- the game of the entries, unless a test fails
unfoldable pub game_from : List Entry → ℕ → Result Game GameFault
game_from entries foot = do
  passes ← all_passed entries foot
  Ok (game_of entries)

-- reading a game file: the line GAMEDEF, the entries up to END GAMEDEF, the tests of the whole file
unfoldable pub read_game : List ℕ → Result Game GameFault
read_game text = do
  start ← gamedef_from 0 (lines text)
  body ← entries_from start.0 [] start.1
  game_from body.0 body.1
