use Rattle.std.proofs.Common.{ℕ, ◌<◌}
use Rattle.stations.specs.Looking.{look_of}
use Rattle.node_seats.specs.Seating.{bot_at, waits_at}
use Rattle.node_service.specs.Bots.{IsServedAt}
use Rattle.node_service.specs.Desks.{IsKept}
use Rattle.node_service.proofs.desk.Desk.tell_seats.Given as goal

abbrev pub invariant-loop-seat : goal.invariant-loop-seat
invariant-loop-seat g l = record {
  kept : IsKept g.W.Wire l.initial.self l.self;
  served : (seat : ℕ) → seat < l.seat → IsServedAt (look_of l.initial.self.member.station) seat (bot_at l.self.seats.seats.items seat) (waits_at l.self.seats.seats.items seat);
}
