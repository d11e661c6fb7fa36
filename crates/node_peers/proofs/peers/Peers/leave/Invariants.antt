use Rattle.std.proofs.Common.{◌≢◌, ℕ, ◌<◌}
use Rattle.std.specs.Prelude.{Some}
use Rattle.node_peers.specs.Peering.{Stays}
use Rattle.node_peers.specs.Replacing.{AllFade, open_at}
use Rattle.node_peers.proofs.peers.Peers.leave.Given as goal

abbrev pub invariant-loop-number : goal.invariant-loop-number
invariant-loop-number l = record {
  stays : Stays l.initial.self l.self;
  fade : AllFade l.initial.self.peers.items l.self.peers.items;
  left : (number : ℕ) → number < l.number → open_at l.self.peers.items number ≢ Some l.place;
}
