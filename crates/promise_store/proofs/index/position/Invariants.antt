use Rattle.std.proofs.Common.{◌≤◌, length, take, drop}
use Rattle.std.specs.Prelude.{◌-◌}
use Rattle.promise_store.proofs.Ordered.{Below, From}
use Rattle.promise_store.proofs.index.position.Given as goal

abbrev pub invariant-loop-low : goal.invariant-loop-low
invariant-loop-low l = record {
  order : l.low ≤ l.high;
  within : l.high ≤ length l.entries;
  below : Below l.slot (take l.low l.entries);
  above : From l.slot (drop l.high l.entries);
}

abbrev pub decreases-loop-low : goal.decreases-loop-low
decreases-loop-low l = l.high - l.low
