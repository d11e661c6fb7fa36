use Rattle.std.proofs.Common.{◌≡◌, ◌≤◌, ◌*◌, length, take}
use Rattle.std.specs.List.{flat_map}
use Rattle.paxos_wire.specs.declared.limits.TheConstants.{MOST_COMMAND}
use Rattle.paxos_wire.specs.Spelling.{command_text}
use Rattle.paxos_wire.proofs.count_bytes.commands_len.Given as goal

abbrev pub invariant-loop-command : goal.invariant-loop-command
invariant-loop-command l = record {
  value : l.sum ≡ length (flat_map command_text (take l.command-index l.commands));
  most : l.sum ≤ MOST_COMMAND * l.command-index;
}
