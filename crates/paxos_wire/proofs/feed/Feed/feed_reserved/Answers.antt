use Rattle.std.proofs.Common.{rules}
use Rattle.paxos_wire.proofs.feed.Feed.feed_reserved.Goals as goal

pub returns-clause-takes : goal.returns-clause-takes
returns-clause-takes c = search rules
