-- What is said of a text that is no line or no answer: a number, and a text of the number and the name.
use Rattle.std.specs.Prelude.{ℕ, List, codes}
use Rattle.matchstate.specs.declared.line_fault.LineFault.{LineFault}
use Rattle.matchstate.specs.declared.line_fault.LineFault.TheVariants.{NotMatchstate, BadNumber, BadBetting, BadCards, BadAction}

-- the number that a fault is known by
abbrev pub fault_code : LineFault → ℕ
fault_code NotMatchstate = 40
fault_code BadNumber = 41
fault_code BadBetting = 42
fault_code BadCards = 43
fault_code BadAction = 44

-- what it prints as
abbrev pub fault_text : LineFault → List ℕ
fault_text NotMatchstate = codes "40 NotMatchstate"
fault_text BadNumber = codes "41 BadNumber"
fault_text BadBetting = codes "42 BadBetting"
fault_text BadCards = codes "43 BadCards"
fault_text BadAction = codes "44 BadAction"
