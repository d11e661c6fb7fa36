use Rattle.std.proofs.Common.{rules}
use Rattle.paxos_wire.proofs.read_numbers.read_slot.Goals as goal

pub returns-clause-below : goal.returns-clause-below
returns-clause-below c = search rules

pub returns-clause-exact : goal.returns-clause-exact
returns-clause-exact c = search rules
