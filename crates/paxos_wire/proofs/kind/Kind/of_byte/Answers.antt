use Rattle.std.proofs.Common.{rules}
use Rattle.paxos_wire.proofs.kind.Kind.of_byte.Goals as goal

pub returns-in-8 : goal.returns-in-8
returns-in-8 c = search rules
