use Rattle.node_service.specs.Timing.{seen_below, KeepsRest}
use Rattle.node_service.specs.Watching.{IsOfSeat}
use Rattle.node_service.proofs.server.NodeServer.look_at_nodes.Given as goal

abbrev pub invariant-loop-number : goal.invariant-loop-number
invariant-loop-number g l = record {
  same : KeepsRest l.initial.self l.self;
  seen : IsOfSeat l.seat (seen_below l.initial.self l.seat l.now l.number) l.initial.self.seat_watches l.self.seat_watches;
}
