use Rattle.paxos_wire.specs.Reading.{entry_within}
use Rattle.std.proofs.Common.{rules}
use Rattle.paxos_wire.proofs.read_entries.read_entry_within.Goals as goal

pub returns-then-entry-limit-clause-exact : goal.returns-then-entry-limit-clause-exact
unfolding entry_within
returns-then-entry-limit-clause-exact c = search rules

pub returns-then-entry-limit-clause-below : goal.returns-then-entry-limit-clause-below
unfolding entry_within
returns-then-entry-limit-clause-below c = search rules
