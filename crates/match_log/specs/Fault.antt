-- The numbers and texts of the faults of logs.
use Rattle.std.specs.Prelude.{ℕ, List, ◌++◌, codes, decimal}
use Rattle.match_log.specs.declared.fault_kind.LogFaultKind.{LogFaultKind}
use Rattle.match_log.specs.declared.fault.LogFault.{LogFault}
use Rattle.match_log.specs.declared.fault_kind.LogFaultKind.TheVariants.{BadHeader, BadState, WrongNumber, WrongValues, WrongScore}

-- the number of a fault
abbrev pub code_of : LogFaultKind → ℕ
code_of BadHeader = 45
code_of BadState = 46
code_of WrongNumber = 47
code_of WrongValues = 48
code_of WrongScore = 49

-- its number and its name
abbrev pub kind_text : LogFaultKind → List ℕ
kind_text BadHeader = codes "45 BadHeader"
kind_text BadState = codes "46 BadState"
kind_text WrongNumber = codes "47 WrongNumber"
kind_text WrongValues = codes "48 WrongValues"
kind_text WrongScore = codes "49 WrongScore"

-- what a fault prints: its number, its name and its line
abbrev pub fault_text : LogFault → List ℕ
fault_text fault = kind_text fault.kind ++ codes " " ++ decimal fault.line
