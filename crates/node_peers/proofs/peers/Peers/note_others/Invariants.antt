use Rattle.node_peers.specs.Peering.{Stays}
use Rattle.node_peers.proofs.peers.Peers.note_others.Given as goal

abbrev pub invariant-loop : goal.invariant-loop
invariant-loop l = Stays l.initial.self l.self
