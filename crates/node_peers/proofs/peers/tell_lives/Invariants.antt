use Rattle.node_peers.specs.Handing.{GoBack}
use Rattle.node_peers.specs.Reporting.{Informed}
use Rattle.node_peers.proofs.peers.tell_lives.Given as goal

abbrev pub invariant-loop-number : goal.invariant-loop-number
invariant-loop-number l = record {
  back : GoBack l.initial.peers.items l.peers.items;
  told : Informed l.number l.initial.lives l.initial.settings l.initial.peers.items l.peers.items;
}
