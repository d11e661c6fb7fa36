use Rattle.std.proofs.Common.{rules}
use Rattle.betting.proofs.fault.ActFaultDisplay.fmt.Goals as goal

pub returns-in-RaiseTooSmall-clause-writes : goal.returns-in-RaiseTooSmall-clause-writes
returns-in-RaiseTooSmall-clause-writes g c = search rules
