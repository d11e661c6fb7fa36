use Rattle.std.proofs.Common.{◌≡◌, drop}
use Rattle.node_peers.specs.Knowing.{told_by}
use Rattle.node_peers.proofs.knowing.known_of.Given as goal

abbrev pub invariant-loop-peer : goal.invariant-loop-peer
invariant-loop-peer l = told_by l.number (drop l.peer-index l.peers) l.known ≡ told_by l.number l.peers l.initial.known
