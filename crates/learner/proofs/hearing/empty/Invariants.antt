use Rattle.std.proofs.Common.{ℕ, ◌≡◌, ◌-◌, ◌≤◌, length}
use Rattle.std.specs.Prelude.{max}
use Rattle.learner.specs.Learning.{emptied}
use Rattle.learner.specs.Cells.{tallies_in, spare_at}
use Rattle.learner.proofs.hearing.empty.Given as goal

abbrev pub invariant-loop-slot : goal.invariant-loop-slot
invariant-loop-slot l = record {
  tallies : tallies_in l.cells.items ≡ emptied l.from (l.slot - l.from) (tallies_in l.fn.cells.items);
  kept : (place : ℕ) → spare_at l.fn.cells.items place ≤ spare_at l.cells.items place;
  end : l.slot ≤ max l.from l.to;
  len : length l.cells.items ≡ length l.fn.cells.items;
}
