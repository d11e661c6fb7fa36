use Rattle.std.proofs.Common.{rules}
use Rattle.paxos_wire.proofs.ballot.Ballot.is_below.Goals as goal

pub returns-then-self-other-2 : goal.returns-then-self-other-2
returns-then-self-other-2 c = search rules
