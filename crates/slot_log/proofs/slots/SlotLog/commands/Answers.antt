use Rattle.std.proofs.Common.{arith}
use Rattle.std.proofs.lemmas.Grind.{common_steps}
use Rattle.slot_log.proofs.slots.SlotLog.commands.Goals as goal

pub returns-clause-value : goal.returns-clause-value
returns-clause-value c = grind (arith, common_steps)

pub returns-clause-len : goal.returns-clause-len
returns-clause-len c = grind (arith, common_steps)
