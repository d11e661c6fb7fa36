use Rattle.std.proofs.Common.{ℕ, ◌≡◌, ◌<◌, ◌≤◌, length}
use Rattle.learner.specs.Cells.{tallies_in, spare_at}
use Rattle.learner.proofs.hearing.reserve.Given as goal

abbrev pub invariant-loop-place : goal.invariant-loop-place
invariant-loop-place l = record {
  tallies : tallies_in l.cells.items ≡ tallies_in l.fn.cells.items;
  len : length l.cells.items ≡ length l.fn.cells.items;
  kept : (place : ℕ) → spare_at l.fn.cells.items place ≤ spare_at l.cells.items place;
  room : (other : ℕ) → other < l.place → l.votes ≤ spare_at l.cells.items other;
}
