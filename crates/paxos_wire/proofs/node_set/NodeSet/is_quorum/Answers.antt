use Rattle.std.proofs.Common.{rules}
use Rattle.paxos_wire.proofs.node_set.NodeSet.is_quorum.Goals as goal

pub returns : goal.returns
returns c = search rules
