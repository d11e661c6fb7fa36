use Rattle.std.proofs.Common.{ℕ, ◌≡◌, ◌≢◌, ◌+◌, ◌-◌, ◌%◌, ◌<◌, ◌≤◌, ◌++◌, length, take, drop, replicate, false}
use Rattle.paxos_wire.specs.declared.limits.TheConstants.{WINDOW}
use Rattle.learner.specs.Cells.{learned_by, spare_at}
use Rattle.learner.specs.CommandRuns.{hearing_each, chosen_each}
use Rattle.learner.proofs.hearing.hear_each.Given as goal

abbrev pub invariant-loop-place : goal.invariant-loop-place
invariant-loop-place l = record {
  learned : hearing_each (learned_by l.nodes l.cells.items l.log.log) l.from l.ballot (l.slot + l.place) (drop l.place l.commands)
      ≡ hearing_each (learned_by l.nodes l.fn.cells.items l.fn.log.log) l.from l.ballot l.slot l.commands;
  told : take l.place l.chosen ++ chosen_each (learned_by l.nodes l.cells.items l.log.log) l.from l.ballot (l.slot + l.place) (drop l.place l.commands)
      ≡ chosen_each (learned_by l.nodes l.fn.cells.items l.fn.log.log) l.from l.ballot l.slot l.commands;
  behind : drop l.place l.chosen ≡ replicate (WINDOW - l.place) false;
  places : length l.chosen ≡ WINDOW;
  len : length l.cells.items ≡ length l.fn.cells.items;
  kept : (cell : ℕ) → ((j : ℕ) → j < l.place → cell ≢ (l.slot + j) % WINDOW) → spare_at l.fn.cells.items cell ≤ spare_at l.cells.items cell;
  taken : (cell : ℕ) → spare_at l.fn.cells.items cell ≤ spare_at l.cells.items cell + 1;
  log_room : l.fn.log.room ≤ l.log.room + l.place;
}
