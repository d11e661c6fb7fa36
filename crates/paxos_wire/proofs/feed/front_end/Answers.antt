use Rattle.paxos_wire.specs.Stream.{needed}
use Rattle.std.proofs.Common.{rules}
use Rattle.paxos_wire.proofs.feed.front_end.Goals as goal

pub returns-then-bytes-end-clause-partial : goal.returns-then-bytes-end-clause-partial
unfolding needed
returns-then-bytes-end-clause-partial c = search rules

pub returns-else-bytes-end-clause-end : goal.returns-else-bytes-end-clause-end
unfolding needed
returns-else-bytes-end-clause-end c = search rules
