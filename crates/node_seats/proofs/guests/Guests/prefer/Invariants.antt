use Rattle.std.proofs.Common.{◌≡◌, ℕ}
use Rattle.node_wires.specs.declared.line.Line.TheVariants.{Guest}
use Rattle.node_wires.specs.Passages.{came_over}
use Rattle.node_seats.specs.Passing.{Grows}
use Rattle.node_seats.specs.Keeping.{stands_at, LeavesOnly}
use Rattle.node_seats.proofs.Keeping.{WaitsBelow}
use Rattle.node_seats.proofs.guests.Guests.prefer.Given as goal

abbrev pub invariant-loop-other : goal.invariant-loop-other
invariant-loop-other g l = record {
  grows : Grows l.initial.self.passed.items l.self.passed.items (g.W.Wire.passed l.initial.wire) (g.W.Wire.passed l.wire);
  came : (at : ℕ) → came_over l.self.passed.items (Guest at) ≡ came_over l.initial.self.passed.items (Guest at);
  tokens : l.self.tokens ≡ l.initial.self.tokens;
  here : stands_at l.self.guests.items l.place ≡ stands_at l.initial.self.guests.items l.place;
  left : LeavesOnly l.initial.self.guests.items l.self.guests.items;
  alone : WaitsBelow l.other l.seat l.place l.self.guests.items;
}
