use Rattle.std.proofs.Common.{rules}
use Rattle.paxos_wire.proofs.write_numbers.slot_bytes.Goals as goal

pub returns : goal.returns
returns c = search rules
