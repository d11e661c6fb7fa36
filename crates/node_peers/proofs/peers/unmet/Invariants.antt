use Rattle.std.proofs.Common.{◌≡◌, ◌<◌, ℕ, [], length, get_or}
use Rattle.node_peers.specs.declared.peer.Peer.{Peer}
use Rattle.node_peers.specs.Handing.{frames_for}
use Rattle.node_peers.proofs.peers.unmet.Given as goal

abbrev pub invariant-loop-number : goal.invariant-loop-number
invariant-loop-number l = (number : ℕ) (nobody : Peer) → number < length l.peers.items → frames_for (get_or l.peers.items number nobody) ≡ []
