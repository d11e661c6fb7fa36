use Rattle.std.proofs.Common.{◌≡◌}
use Rattle.node_seats.specs.Writing.{Writes}
use Rattle.node_seats.proofs.seat.Seat.flush.Given as goal

abbrev pub invariant-loop : goal.invariant-loop
invariant-loop g l = record {
  wrote : Writes l.number l.initial.self.waiting.waiting l.self.waiting.waiting (g.W.Wire.passed l.initial.wire) (g.W.Wire.passed l.wire);
  sits : l.self.bot ≡ l.initial.self.bot;
  since : l.self.since ≡ l.initial.self.since;
}
