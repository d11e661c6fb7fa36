use Rattle.std.proofs.Common.{rules}
use Rattle.card_core.proofs.fault.DealFault.code.Goals as goal

pub returns-in-WrongCount : goal.returns-in-WrongCount
returns-in-WrongCount c = search rules

pub returns-in-Repeated : goal.returns-in-Repeated
returns-in-Repeated c = search rules
