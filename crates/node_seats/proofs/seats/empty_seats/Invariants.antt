use Rattle.std.proofs.Common.{◌≡◌, ℕ, [], length}
use Rattle.node_seats.specs.Seating.{waits_at, bot_at, no_bot}
use Rattle.node_seats.proofs.seats.empty_seats.Given as goal

abbrev pub invariant-loop : goal.invariant-loop
invariant-loop l = record {
  all : length l.seats.items ≡ l.counter;
  waits : (seat : ℕ) → waits_at l.seats.items seat ≡ [];
  nobody : (seat : ℕ) → bot_at l.seats.items seat ≡ no_bot;
}
