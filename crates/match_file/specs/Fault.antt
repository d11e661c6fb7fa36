-- The numbers of a match file's faults, and what they print.
use Rattle.std.specs.Prelude.{ℕ, List, ◌++◌, codes}
use Rattle.game_def.specs.Fault.{fault_text as game_fault_text}
use Rattle.match_file.specs.Keys.{key_text}
use Rattle.match_file.specs.declared.match_fault.MatchFault.{MatchFault}
use Rattle.match_file.specs.declared.match_fault.MatchFault.TheVariants.{NotToml, BadEntry, Game, Unreadable, OutOfMemory}

-- the number of a fault
abbrev pub code_of : MatchFault → ℕ
code_of NotToml = 100
code_of (BadEntry key) = 101
code_of (Game fault) = 102
code_of Unreadable = 104
code_of OutOfMemory = 92

-- what a fault prints: its number, its name, and the key or the game file's fault that belongs to it
abbrev pub fault_text : MatchFault → List ℕ
fault_text NotToml = codes "100 NotToml"
fault_text (BadEntry key) = codes "101 BadEntry " ++ key_text key
fault_text (Game fault) = codes "102 Game " ++ game_fault_text fault
fault_text Unreadable = codes "104 Unreadable"
fault_text OutOfMemory = codes "92 OutOfMemory"
