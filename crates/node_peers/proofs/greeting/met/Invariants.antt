use Rattle.std.proofs.Common.{◌≡◌, length}
use Rattle.node_links.specs.declared.limits.TheConstants.{NODES}
use Rattle.node_peers.specs.Meeting.{AreMet}
use Rattle.node_peers.proofs.greeting.met.Given as goal

abbrev pub invariant-loop-number : goal.invariant-loop-number
invariant-loop-number l = record {
  room : length l.met ≡ NODES;
  are : AreMet l.own l.number l.met l.peers;
}
