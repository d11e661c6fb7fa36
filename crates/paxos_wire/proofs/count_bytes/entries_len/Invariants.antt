use Rattle.std.proofs.Common.{◌≡◌, ◌≤◌, ◌*◌, length, take}
use Rattle.std.specs.List.{flat_map}
use Rattle.paxos_wire.specs.Spelling.{entry_text}
use Rattle.paxos_wire.proofs.count_bytes.entries_len.Given as goal

abbrev pub invariant-loop-entry : goal.invariant-loop-entry
invariant-loop-entry l = record {
  value : l.sum ≡ length (flat_map entry_text (take l.entry-index l.entries));
  most : l.sum ≤ 40 * l.entry-index;
}
