use Rattle.std.proofs.Common.{◌≡◌, drop}
use Rattle.node_peers.specs.Knowing.{first_told}
use Rattle.node_peers.proofs.knowing.life_told.Given as goal

abbrev pub invariant-loop-peer : goal.invariant-loop-peer
invariant-loop-peer l = first_told l.number (drop l.peer-index l.peers) l.life ≡ first_told l.number l.peers l.initial.life
