use Rattle.std.proofs.Common.{rules}
use Rattle.paxos_wire.proofs.entries.Entries.len.Goals as goal

pub returns-clause-value : goal.returns-clause-value
returns-clause-value c = search rules
