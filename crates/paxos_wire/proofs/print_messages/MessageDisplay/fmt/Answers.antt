use Rattle.std.proofs.Common.{rules}
use Rattle.paxos_wire.proofs.print_messages.MessageDisplay.fmt.Goals as goal

pub returns-in-Ask-clause-writes : goal.returns-in-Ask-clause-writes
returns-in-Ask-clause-writes g c = search rules
