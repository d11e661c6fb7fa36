use Rattle.std.proofs.Common.{rules}
use Rattle.paxos_wire.proofs.kind.Kind.of_message.Goals as goal

pub returns-in-Accept : goal.returns-in-Accept
returns-in-Accept c = search rules
