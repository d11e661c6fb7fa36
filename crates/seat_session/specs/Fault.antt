-- What is said of a line that gives nothing: a number, and a text of the number, the name and the fault inside.
use Rattle.std.specs.Prelude.{ℕ, Bool, true, false, List, ◌++◌, codes}
use Rattle.betting.specs.Fault.{fault_text as act_fault_text}
use Rattle.matchstate.specs.Fault.{fault_text as line_fault_text}
use Rattle.seat_session.specs.declared.session_fault.SessionFault.{SessionFault}
use Rattle.seat_session.specs.declared.session_fault.SessionFault.TheVariants.{BadVersion, LineTooLong, Malformed, NotCurrent, NotYourTurn, Illegal}

-- the number that a fault is known by
abbrev pub fault_code : SessionFault → ℕ
fault_code BadVersion = 80
fault_code LineTooLong = 81
fault_code (Malformed _) = 82
fault_code NotCurrent = 83
fault_code NotYourTurn = 84
fault_code (Illegal _) = 85

-- what it prints as
abbrev pub fault_text : SessionFault → List ℕ
fault_text BadVersion = codes "80 BadVersion"
fault_text LineTooLong = codes "81 LineTooLong"
fault_text (Malformed fault) = codes "82 Malformed " ++ line_fault_text fault
fault_text NotCurrent = codes "83 NotCurrent"
fault_text NotYourTurn = codes "84 NotYourTurn"
fault_text (Illegal fault) = codes "85 Illegal " ++ act_fault_text fault

-- the first two close a session
abbrev pub closes : SessionFault → Bool
closes BadVersion = true
closes LineTooLong = true
closes (Malformed _) = false
closes NotCurrent = false
closes NotYourTurn = false
closes (Illegal _) = false
