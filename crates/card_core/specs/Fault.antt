-- What is said of cards that are no deal: a number, and a text of the number and the name.
use Rattle.std.specs.Prelude.{ℕ, List, codes}
use Rattle.card_core.specs.declared.fault.DealFault.{DealFault}
use Rattle.card_core.specs.declared.fault.DealFault.TheVariants.{WrongCount, Repeated}

-- the number that a fault is known by
abbrev pub fault_code : DealFault → ℕ
fault_code WrongCount = 1
fault_code Repeated = 2

-- what it prints as
abbrev pub fault_text : DealFault → List ℕ
fault_text WrongCount = codes "1 WrongCount"
fault_text Repeated = codes "2 Repeated"
