use Rattle.paxos_wire.specs.Reading.{ballot_at}
use Rattle.std.proofs.Common.{rules}
use Rattle.paxos_wire.proofs.read_numbers.read_ballot.Goals as goal

pub returns-then-node-nodes : goal.returns-then-node-nodes
unfolding ballot_at
returns-then-node-nodes c = search rules
