use Rattle.std.proofs.Common.{◌≡◌}
use Rattle.node_peers.specs.Knowing.{lives_below}
use Rattle.node_peers.proofs.knowing.lives_told.Given as goal

abbrev pub invariant-loop-number : goal.invariant-loop-number
invariant-loop-number l = l.lives ≡ lives_below l.number l.own l.peers
