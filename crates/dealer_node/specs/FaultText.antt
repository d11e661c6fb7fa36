-- The numbers of a node's faults, and what they print as.
use Rattle.std.specs.Prelude.{ℕ, List, ◌++◌, codes}
use Rattle.paxos_wire.specs.Lines.{fault_line}
use Rattle.promise_store.specs.FaultText.{fault_text as store_fault_text}
use Rattle.dealer_node.specs.declared.fault.NodeFault.{NodeFault}
use Rattle.dealer_node.specs.declared.fault.NodeFault.TheVariants.{Down, Store, OutOfMemory, Spent, BadFrame, Conflict, NothingToAct}

-- the number of a fault
abbrev pub code_of : NodeFault → ℕ
code_of Down = 90
code_of (Store fault) = 91
code_of OutOfMemory = 92
code_of Spent = 93
code_of (BadFrame fault) = 94
code_of Conflict = 95
code_of NothingToAct = 96

-- what it prints as
abbrev pub fault_text : NodeFault → List ℕ
fault_text Down = codes "90 Down"
fault_text (Store fault) = codes "91 Store " ++ store_fault_text fault
fault_text OutOfMemory = codes "92 OutOfMemory"
fault_text Spent = codes "93 Spent"
fault_text (BadFrame fault) = codes "94 BadFrame " ++ fault_line fault
fault_text Conflict = codes "95 Conflict"
fault_text NothingToAct = codes "96 NothingToAct"
