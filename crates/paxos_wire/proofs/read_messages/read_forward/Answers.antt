use Rattle.paxos_wire.specs.Reading.{forward_at}
use Rattle.std.proofs.Common.{rules}
use Rattle.paxos_wire.proofs.read_messages.read_forward.Goals as goal

pub returns-in-Deal : goal.returns-in-Deal
unfolding forward_at
returns-in-Deal c = search rules
