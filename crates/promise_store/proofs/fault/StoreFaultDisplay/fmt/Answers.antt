use Rattle.std.proofs.Common.{rules}
use Rattle.promise_store.proofs.fault.StoreFaultDisplay.fmt.Goals as goal

pub returns-in-BadRecord-clause-writes : goal.returns-in-BadRecord-clause-writes
returns-in-BadRecord-clause-writes g c = search rules
