use Rattle.std.proofs.Common.{rules}
use Rattle.paxos_wire.proofs.fault.FrameFaultDisplay.fmt.Goals as goal

pub returns-in-BadBody-clause-writes : goal.returns-in-BadBody-clause-writes
returns-in-BadBody-clause-writes g c = search rules
