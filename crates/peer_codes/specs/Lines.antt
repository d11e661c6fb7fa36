-- What faults print as.
use Rattle.std.specs.Prelude.{ℕ, List, codes}
use Rattle.peer_codes.specs.declared.fault.RecordFault.{RecordFault}
use Rattle.peer_codes.specs.declared.fault.RecordFault.TheVariants.{BadLength, BadKind, BadHello}
use Rattle.peer_codes.specs.declared.connection_fault.ConnectionFault.{ConnectionFault}
use Rattle.peer_codes.specs.declared.connection_fault.ConnectionFault.TheVariants as faults

-- the number that a fault is known by
abbrev pub record_fault_code : RecordFault → ℕ
record_fault_code BadLength = 120
record_fault_code BadKind = 121
record_fault_code BadHello = 122

-- a fault prints as its number and its name
abbrev pub record_fault_line : RecordFault → List ℕ
record_fault_line BadLength = codes "120 BadLength"
record_fault_line BadKind = codes "121 BadKind"
record_fault_line BadHello = codes "122 BadHello"

-- the number that a connection's fault is known by
abbrev pub connection_fault_code : ConnectionFault → ℕ
connection_fault_code (faults.Record fault) = record_fault_code fault
connection_fault_code faults.WrongProof = 124
connection_fault_code faults.WrongTag = 125
connection_fault_code faults.UnexpectedRecord = 126

abbrev pub connection_fault_line : ConnectionFault → List ℕ
connection_fault_line (faults.Record fault) = record_fault_line fault
connection_fault_line faults.WrongProof = codes "124 WrongProof"
connection_fault_line faults.WrongTag = codes "125 WrongTag"
connection_fault_line faults.UnexpectedRecord = codes "126 UnexpectedRecord"
