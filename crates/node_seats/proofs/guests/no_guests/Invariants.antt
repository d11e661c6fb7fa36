use Rattle.std.proofs.Common.{◌≡◌, ℕ, None, get_or}
use Rattle.node_seats.proofs.guests.no_guests.Given as goal

abbrev pub invariant-loop : goal.invariant-loop
invariant-loop l = (place : ℕ) → get_or l.guests.items place None ≡ None
