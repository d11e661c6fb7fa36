use Rattle.std.proofs.Common.{rules}
use Rattle.card_core.proofs.fault.DealFaultDisplay.fmt.Goals as goal

pub returns-in-Repeated-clause-writes : goal.returns-in-Repeated-clause-writes
returns-in-Repeated-clause-writes g c = search rules
