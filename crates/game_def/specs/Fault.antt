-- The numbers and names of the faults of game files.
use Rattle.std.specs.Prelude.{ℕ, List, ◌++◌, codes}
use Rattle.std.specs.Fmt.{decimal}
use Rattle.game_def.specs.declared.fault_kind.FaultKind.{FaultKind}
use Rattle.game_def.specs.declared.fault.GameFault.{GameFault}
use Rattle.game_def.specs.declared.fault_kind.FaultKind.TheVariants.{NoGamedef, NoEnd, UnknownKey, BadNumber, WrongCount, Unsupported, NoBlind, StackBelowBlind, NoRaiseSize, RepeatedKey}

-- the number of a fault
abbrev pub code_of : FaultKind → ℕ
code_of NoGamedef = 10
code_of NoEnd = 11
code_of UnknownKey = 12
code_of BadNumber = 13
code_of WrongCount = 14
code_of Unsupported = 15
code_of NoBlind = 16
code_of StackBelowBlind = 17
code_of NoRaiseSize = 18
code_of RepeatedKey = 19

-- the name of a fault
abbrev pub name_of : FaultKind → List ℕ
name_of NoGamedef = codes "NoGamedef"
name_of NoEnd = codes "NoEnd"
name_of UnknownKey = codes "UnknownKey"
name_of BadNumber = codes "BadNumber"
name_of WrongCount = codes "WrongCount"
name_of Unsupported = codes "Unsupported"
name_of NoBlind = codes "NoBlind"
name_of StackBelowBlind = codes "StackBelowBlind"
name_of NoRaiseSize = codes "NoRaiseSize"
name_of RepeatedKey = codes "RepeatedKey"

-- a fault that is told at a line
abbrev pub fault_at : ℕ → FaultKind → GameFault
fault_at line kind = record { kind = kind; line = line }

-- what a fault prints: its number, its name and its line
abbrev pub fault_text : GameFault → List ℕ
fault_text fault = decimal (code_of fault.kind) ++ codes " " ++ name_of fault.kind ++ codes " " ++ decimal fault.line
