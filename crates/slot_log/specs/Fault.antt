-- What is said of a command that isn't put at a slot: a number, and a text of the number and the name.
use Rattle.std.specs.Prelude.{ℕ, List, codes}
use Rattle.slot_log.specs.declared.slot_fault.SlotFault.{SlotFault}
use Rattle.slot_log.specs.declared.slot_fault.SlotFault.TheVariants.{Conflict, SlotsSpent}

-- the number that a fault is known by
abbrev pub fault_code : SlotFault → ℕ
fault_code Conflict = 30
fault_code SlotsSpent = 31

-- what it prints as
abbrev pub fault_text : SlotFault → List ℕ
fault_text Conflict = codes "30 Conflict"
fault_text SlotsSpent = codes "31 SlotsSpent"
