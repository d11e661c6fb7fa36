use Rattle.std.proofs.Common.{◌≡◌, [], replicate, length}
use Rattle.learner.specs.Cells.{tallies_in}
use Rattle.learner.proofs.hearing.new_cells.Given as goal

abbrev pub invariant-loop : goal.invariant-loop
invariant-loop l = record { tallies : tallies_in l.cells.items ≡ replicate l.counter []; len : length l.cells.items ≡ l.counter }
