use Rattle.std.proofs.Common.{rules}
use Rattle.betting.proofs.fault.ActFault.code.Goals as goal

pub returns-in-Finished : goal.returns-in-Finished
returns-in-Finished c = search rules

pub returns-in-FoldNotFacing : goal.returns-in-FoldNotFacing
returns-in-FoldNotFacing c = search rules
