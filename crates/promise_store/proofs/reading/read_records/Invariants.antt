use Rattle.std.proofs.Common.{◌≡◌, ◌+◌, ◌-◌, ◌≤◌, drop, take}
use Rattle.std.specs.Prelude.{IsTrue}
use Rattle.promise_store.specs.Settled.{OnlyReads}
use Rattle.promise_store.specs.Reading.{IsReadTo}
use Rattle.promise_store.proofs.reading.read_records.Given as goal

abbrev pub invariant-records : goal.invariant-records
invariant-records g l = record {
  low : 8 ≤ l.at;
  order : l.start ≤ l.at;
  in_window : l.at ≤ l.start + l.filled;
  few : l.filled ≤ 4096;
  within : l.start + l.filled ≤ l.len;
  window : IsTrue g.D.Disk.is_honest → take l.filled l.window ≡ take l.filled (drop l.start (g.D.Disk.seen l.initial.disk));
  so_far : IsReadTo g.D.Disk.is_honest (g.D.Disk.seen l.initial.disk) l.fn.first 8 l.at l.stage l.held;
  reads : OnlyReads g.D.Disk l.initial.disk l.disk;
}

abbrev pub decreases-records : goal.decreases-records
decreases-records g l = l.len - l.at
