-- Why a match file is refused: what is told of the first key that is wrong.
use Rattle.std.specs.Prelude.{◌≡◌, ℕ, List, Option, Some, None, Err, option_map}
use Rattle.game_def.specs.Game.{Game}
use Rattle.game_def.specs.WholeFile.{read_game}
use Rattle.toml.specs.Data.{Members}
use Rattle.match_file.specs.declared.key.Key.{Key}
use Rattle.match_file.specs.declared.key.Key.TheVariants.{Name, Game as GameKey, Hands, Names, Node, Stores, Logs, Port, Outage, Away}
use Rattle.match_file.specs.declared.match_fault.MatchFault.{MatchFault}
use Rattle.match_file.specs.declared.match_fault.MatchFault.TheVariants.{NotToml, BadEntry, Game as BadGame, Unreadable, OutOfMemory}
use Rattle.match_file.specs.Said.{IsAbsent, IsThere}
use Rattle.match_file.specs.Matches.{HasMembers, SaysTitle, SaysGame, SaysHands, SaysNames, SaysSources, DefinesGame, SaysFolder, SaysPort, SaysOutages}
use Rattle.match_file.specs.Absences.{SaysAbsent}

-- of a text: it is no UTF-8 or no TOML, or memory was refused
abbrev pub IsNoToml : List ℕ → MatchFault → Type 0
IsNoToml text NotToml = IsAbsent (HasMembers text)
IsNoToml text OutOfMemory = Unit {0}
IsNoToml text fault = ⊥

-- the first two keys are right
abbrev pub IsNamed : Members → Type 0
IsNamed table = IsThere (SaysTitle table) × IsThere (SaysGame table)

-- of the first two keys
abbrev pub IsUnnamed : Members → MatchFault → Type 0
IsUnnamed table (BadEntry Name) = IsAbsent (SaysTitle table)
IsUnnamed table (BadEntry GameKey) = IsThere (SaysTitle table) × IsAbsent (SaysGame table)
IsUnnamed table fault = ⊥

-- of the three keys behind the game, whose game file is that of this game
abbrev pub IsWrongIn : Members → Game → Key → Type 0
IsWrongIn table game Hands = IsAbsent (SaysHands table)
IsWrongIn table game Names = IsThere (SaysHands table) × IsAbsent (SaysNames game.players table)
IsWrongIn table game Node =
    IsThere (SaysNames game.players table) × ((hands : ℕ) × SaysHands table hands × IsAbsent (SaysSources game.players hands table))
IsWrongIn table game key = ⊥

-- a key of the first five is wrong
abbrev pub IsWrong : Option (List ℕ) → Members → Key → Type 0
IsWrong bytes table Name = IsAbsent (SaysTitle table)
IsWrong bytes table GameKey = IsThere (SaysTitle table) × IsAbsent (SaysGame table)
IsWrong bytes table key = IsNamed table × ((game : Game) × DefinesGame bytes game × IsWrongIn table game key)

-- of the game file: it can't be read, or it is refused
abbrev pub IsNoGame : Option (List ℕ) → MatchFault → Type 0
IsNoGame bytes (BadGame fault) = option_map read_game bytes ≡ Some (Err fault)
IsNoGame bytes Unreadable = bytes ≡ None
IsNoGame bytes fault = ⊥

-- of the first five keys and the game file, or memory was refused
abbrev pub IsRefused : Option (List ℕ) → Members → MatchFault → Type 0
IsRefused bytes table NotToml = ⊥
IsRefused bytes table (BadEntry key) = IsWrong bytes table key
IsRefused bytes table (BadGame fault) = IsNamed table × IsNoGame bytes (BadGame fault)
IsRefused bytes table Unreadable = IsNamed table × IsNoGame bytes Unreadable
IsRefused bytes table OutOfMemory = Unit {0}

-- of the key `stores`
abbrev pub HasNoStores : Members → MatchFault → Type 0
HasNoStores table (BadEntry Stores) = IsAbsent (SaysFolder Stores table)
HasNoStores table fault = ⊥

-- of the last five keys, for so many nodes, or memory was refused
abbrev pub IsUnserved : ℕ → Members → MatchFault → Type 0
IsUnserved nodes table (BadEntry Stores) = IsAbsent (SaysFolder Stores table)
IsUnserved nodes table (BadEntry Logs) = IsThere (SaysFolder Stores table) × IsAbsent (SaysFolder Logs table)
IsUnserved nodes table (BadEntry Port) = IsThere (SaysFolder Stores table) × IsThere (SaysFolder Logs table) × IsAbsent (SaysPort table)
IsUnserved nodes table (BadEntry Outage) =
    IsThere (SaysFolder Stores table) × IsThere (SaysFolder Logs table) × IsThere (SaysPort table) × IsAbsent (SaysOutages nodes table)
IsUnserved nodes table (BadEntry Away) =
    IsThere (SaysFolder Stores table) × IsThere (SaysFolder Logs table) × IsThere (SaysPort table) × IsThere (SaysOutages nodes table) × IsAbsent (SaysAbsent table)
IsUnserved nodes table OutOfMemory = Unit {0}
IsUnserved nodes table fault = ⊥

-- of an array at a key, of which one item says nothing; or memory was refused
abbrev pub IsToldOf : Key → Type 0 → MatchFault → Type 0
IsToldOf key Wrong (BadEntry other) = (other ≡ key) × Wrong
IsToldOf key Wrong OutOfMemory = Unit {0}
IsToldOf key Wrong fault = ⊥
