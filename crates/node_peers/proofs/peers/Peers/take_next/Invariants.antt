use Rattle.std.proofs.Common.{◌≡◌}
use Rattle.node_peers.specs.Peering.{own_of, Stays}
use Rattle.node_peers.specs.Leaving.{PassesOver, aside_of, newest_of, waits_of}
use Rattle.node_peers.proofs.peers.Peers.take_next.Given as goal

abbrev pub invariant-loop : goal.invariant-loop
invariant-loop l = record {
  stays : Stays l.initial.self l.self;
  peers : l.self.peers ≡ l.initial.self.peers;
  newest : newest_of l.self ≡ newest_of l.initial.self;
  front : l.self.own_front ≡ l.initial.self.own_front;
  passes : PassesOver (own_of l.initial.self) l.initial.self.peers.items (newest_of l.initial.self) l.initial.self.own_front.front (waits_of l.initial.self) (aside_of l.initial.self) (waits_of l.self) (aside_of l.self);
}
