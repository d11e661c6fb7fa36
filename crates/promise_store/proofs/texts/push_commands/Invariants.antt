use Rattle.std.proofs.Common.{◌≡◌, ◌≤◌, ◌+◌, ◌*◌, ◌++◌, take}
use Rattle.std.specs.List.{flat_map, AllByRecursion}
use Rattle.arrayvec.specs.ArrayVec.{array_vec_len}
use Rattle.paxos_wire.specs.Fits.{IsDealt}
use Rattle.paxos_wire.specs.Spelling.{command_text}
use Rattle.promise_store.proofs.texts.push_commands.Given as goal

abbrev pub invariant-loop-command : goal.invariant-loop-command
invariant-loop-command l = record {
  items : l.bytes.items ≡ l.initial.bytes.items ++ flat_map command_text (take l.command-index l.commands);
  len : array_vec_len l.bytes ≤ array_vec_len l.initial.bytes + 31 * l.command-index;
  dealt : AllByRecursion IsDealt (take l.command-index l.commands);
}
