use Rattle.std.proofs.Common.{◌≡◌, ◌≤◌, ◌++◌, take}
use Rattle.std.specs.Vec.{vec_capacity}
use Rattle.std.specs.List.{flat_map, AllByRecursion}
use Rattle.paxos_wire.specs.Fits.{IsDealt}
use Rattle.paxos_wire.specs.Spelling.{command_text}
use Rattle.paxos_wire.proofs.write_command_bytes.put_commands.Given as goal

abbrev pub invariant-loop-command : goal.invariant-loop-command
invariant-loop-command l = record {
  items : l.out.items ≡ l.fn.out.items ++ flat_map command_text (take l.command-index l.commands);
  capacity : vec_capacity l.fn.out ≤ vec_capacity l.out;
  dealt : AllByRecursion IsDealt (take l.command-index l.commands);
}
