use Rattle.std.specs.Prelude.{◌≡◌, Some}
use Rattle.node_seats.specs.Passing.{Grows}
use Rattle.node_seats.specs.Guesting.{Hears}
use Rattle.node_seats.proofs.guest.read_line.Given as goal

abbrev pub invariant-loop : goal.invariant-loop
invariant-loop g l = record {
  grows : Grows l.initial.passed.items l.passed.items (g.W.Wire.passed l.initial.wire) (g.W.Wire.passed l.wire);
  seat : l.guest.seat ≡ l.initial.guest.seat;
  hears : Hears l.place (Some l.initial.guest) (Some l.guest) l.initial.passed.items l.passed.items;
}
