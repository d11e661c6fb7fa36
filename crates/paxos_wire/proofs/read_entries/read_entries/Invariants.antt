use Rattle.std.proofs.Common.{◌≡◌, ◌-◌, ◌+◌, ◌≤◌}
use Rattle.std.proofs.Common.{length}
use Rattle.paxos_wire.specs.Reading.{entries_at}
use Rattle.paxos_wire.specs.declared.limits.TheConstants.{WINDOW}
use Rattle.paxos_wire.proofs.Fronts.{with_front}
use Rattle.paxos_wire.proofs.read_entries.read_entries.Given as goal

abbrev pub invariant-loop : goal.invariant-loop
invariant-loop l = record {
  count : length l.entries ≡ l.counter;
  from : l.from ≤ l.slot + WINDOW;
  so_far : with_front l.entries (entries_at l.version (l.count - l.counter) l.from (l.slot + WINDOW) l.rest) ≡ entries_at l.version l.count l.slot (l.slot + WINDOW) l.bytes;
}
