use Rattle.std.proofs.Common.{rules}
use Rattle.paxos_wire.proofs.read_command_bytes.cards_of.Goals as goal

pub from_number-requires : goal.from_number-requires
from_number-requires c = search rules
