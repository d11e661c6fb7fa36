use Rattle.std.proofs.Common.{◌≡◌, ℕ, vec_len}
use Rattle.node_status.specs.Given.{given_at, nobody}
use Rattle.node_status.proofs.askers.Askers.new.Given as goal

abbrev pub invariant-loop : goal.invariant-loop
invariant-loop l = (vec_len l.askers ≡ l.counter) × ((place : ℕ) → given_at l.askers.items place ≡ nobody)
