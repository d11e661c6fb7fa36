use Rattle.std.proofs.Common.{◌≡◌, ◌≤◌, ◌++◌, take, map}
use Rattle.std.specs.Vec.{vec_capacity}
use Rattle.std.specs.List.{flat_map, AllByRecursion}
use Rattle.paxos_wire.specs.Fits.{IsDealt}
use Rattle.paxos_wire.specs.Spelling.{entry_text}
use Rattle.paxos_wire.proofs.write_entries.put_entries.Given as goal

abbrev pub invariant-loop-entry : goal.invariant-loop-entry
invariant-loop-entry l = record {
  items : l.out.items ≡ l.fn.out.items ++ flat_map entry_text (take l.entry-index l.entries);
  capacity : vec_capacity l.fn.out ≤ vec_capacity l.out;
  dealt : AllByRecursion IsDealt (map (λ e. e.command) (take l.entry-index l.entries));
}
