-- The numbers of faults, and what they print as.
use Rattle.std.specs.Prelude.{ℕ, List, codes}
use Rattle.promise_store.specs.declared.fault.StoreFault.{StoreFault}
use Rattle.promise_store.specs.declared.fault.StoreFault.TheVariants.{NoStore, BadHeader, BadRecord, Disk, Closed, OutOfMemory}

-- the number of a fault
abbrev pub code_of : StoreFault → ℕ
code_of NoStore = 60
code_of BadHeader = 61
code_of BadRecord = 62
code_of Disk = 63
code_of Closed = 64
code_of OutOfMemory = 92

-- what it prints as
abbrev pub fault_text : StoreFault → List ℕ
fault_text NoStore = codes "60 NoStore"
fault_text BadHeader = codes "61 BadHeader"
fault_text BadRecord = codes "62 BadRecord"
fault_text Disk = codes "63 Disk"
fault_text Closed = codes "64 Closed"
fault_text OutOfMemory = codes "92 OutOfMemory"
