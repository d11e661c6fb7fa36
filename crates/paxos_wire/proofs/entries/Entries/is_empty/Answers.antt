use Rattle.std.proofs.Common.{rules}
use Rattle.paxos_wire.proofs.entries.Entries.is_empty.Goals as goal

pub returns : goal.returns
returns c = search rules
