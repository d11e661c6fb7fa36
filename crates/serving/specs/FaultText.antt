-- The numbers of a server's faults, and what they print as.
use Rattle.std.specs.Prelude.{ℕ, List, codes}
use Rattle.dealer_node.specs.FaultText.{fault_text as node_fault_text, code_of as node_code_of}
use Rattle.serving.specs.declared.serve_fault.ServeFault.{ServeFault}
use Rattle.serving.specs.declared.serve_fault.ServeFault.TheVariants.{LinkFailed, LogFailed, Node}

-- the number of a fault
abbrev pub code_of : ServeFault → ℕ
code_of LinkFailed = 105
code_of LogFailed = 106
code_of (Node fault) = node_code_of fault

-- what it prints as
abbrev pub fault_text : ServeFault → List ℕ
fault_text LinkFailed = codes "105 LinkFailed"
fault_text LogFailed = codes "106 LogFailed"
fault_text (Node fault) = node_fault_text fault
