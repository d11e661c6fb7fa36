use Rattle.std.proofs.Common.{◌≡◌, ◌≤◌, ◌*◌, length, take}
use Rattle.std.specs.List.{flat_map}
use Rattle.paxos_wire.specs.Spelling.{command_text}
use Rattle.promise_store.proofs.texts.commands_len.Given as goal

abbrev pub invariant-loop-command : goal.invariant-loop-command
invariant-loop-command l = record {
  value : l.sum ≡ length (flat_map command_text (take l.command-index l.commands));
  most : l.sum ≤ 31 * l.command-index;
}
