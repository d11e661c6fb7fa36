-- What is said of an action that isn't allowed: a number, a name, and the amount at which the legal ones begin or end,
-- or the stack that is too small to raise.
use Rattle.std.specs.Prelude.{ℕ, List, ◌++◌, codes, decimal}
use Rattle.betting.specs.declared.fault.ActFault.{ActFault}
use Rattle.betting.specs.declared.fault.ActFault.TheVariants.{Finished, FoldNotFacing, TooManyRaises, NobodyToCall, RaiseTooSmall, RaiseTooLarge, RoundFull}

-- the number that a fault is known by
abbrev pub fault_code : ActFault → ℕ
fault_code Finished = 20
fault_code FoldNotFacing = 21
fault_code TooManyRaises = 22
fault_code NobodyToCall = 23
fault_code (RaiseTooSmall _) = 24
fault_code (RaiseTooLarge _) = 25
fault_code RoundFull = 26

-- what it prints as
abbrev pub fault_text : ActFault → List ℕ
fault_text Finished = codes "20 Finished"
fault_text FoldNotFacing = codes "21 FoldNotFacing"
fault_text TooManyRaises = codes "22 TooManyRaises"
fault_text NobodyToCall = codes "23 NobodyToCall"
fault_text (RaiseTooSmall least) = codes "24 RaiseTooSmall " ++ decimal least
fault_text (RaiseTooLarge greatest) = codes "25 RaiseTooLarge " ++ decimal greatest
fault_text RoundFull = codes "26 RoundFull"
