use Rattle.paxos_wire.specs.Reading.{of_ballot_at}
use Rattle.std.proofs.Common.{rules}
use Rattle.paxos_wire.proofs.read_messages.read_of_ballot.Goals as goal

pub returns-in-Accept : goal.returns-in-Accept
unfolding of_ballot_at
returns-in-Accept c = search rules
