use Rattle.std.proofs.Common.{rules}
use Rattle.streamed.proofs.ending.EndingDisplay.fmt.Goals as goal

pub returns-in-Unreadable-clause-writes : goal.returns-in-Unreadable-clause-writes
returns-in-Unreadable-clause-writes g c = search rules
