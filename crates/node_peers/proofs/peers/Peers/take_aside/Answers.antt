use Rattle.std.proofs.Common.{refl}
use Rattle.node_peers.proofs.peers.Peers.take_aside.Goals as goal

pub returns-clause-kept : goal.returns-clause-kept
returns-clause-kept c = record { peers = refl; waits = c.take_aside.ensures.notices; newest = c.take_aside.ensures.newest; front = refl }
