use Rattle.std.proofs.Common.{rules}
use Rattle.paxos_wire.proofs.feed.Feed.reserve.Goals as goal

pub returns-clause-ok : goal.returns-clause-ok
returns-clause-ok c = search rules
