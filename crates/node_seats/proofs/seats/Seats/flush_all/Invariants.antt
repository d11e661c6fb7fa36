use Rattle.std.proofs.Common.{◌≡◌, ℕ, ◌++◌}
use Rattle.node_wires.specs.declared.line.Line.TheVariants.{Seat as SeatOf}
use Rattle.node_wires.specs.Passages.{seats_in, wrote_over, logged_in}
use Rattle.node_seats.specs.Others.{KeepsOthers}
use Rattle.node_seats.specs.Seating.{waits_at, bot_at}
use Rattle.node_seats.specs.Writing.{WritesToSeats}
use Rattle.node_seats.specs.Times.{KeepsTime}
use Rattle.node_seats.proofs.seats.Seats.flush_all.Given as goal

abbrev pub invariant-loop-number : goal.invariant-loop-number
invariant-loop-number g l = record {
  said : (seat : ℕ) → wrote_over (g.W.Wire.passed l.wire) (SeatOf seat) ++ waits_at l.self.seats.items seat ≡ wrote_over (g.W.Wire.passed l.initial.wire) (SeatOf seat) ++ waits_at l.initial.self.seats.items seat;
  sits : (seat : ℕ) → bot_at l.self.seats.items seat ≡ bot_at l.initial.self.seats.items seat;
  others : KeepsOthers (g.W.Wire.passed l.initial.wire) (g.W.Wire.passed l.wire);
  wrote : WritesToSeats (g.W.Wire.passed l.initial.wire) (g.W.Wire.passed l.wire);
  time : KeepsTime l.initial.self l.self;
  guests : l.self.guests ≡ l.initial.self.guests;
  seats : seats_in (g.W.Wire.passed l.wire) ≡ seats_in (g.W.Wire.passed l.initial.wire);
  log : logged_in (g.W.Wire.passed l.wire) ≡ logged_in (g.W.Wire.passed l.initial.wire);
}
