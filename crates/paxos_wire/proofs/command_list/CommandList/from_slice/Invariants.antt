use Rattle.std.proofs.Common.{◌≡◌, take}
use Rattle.paxos_wire.proofs.command_list.CommandList.from_slice.Given as goal

abbrev pub invariant-loop-command : goal.invariant-loop-command
invariant-loop-command l = l.list ≡ take l.command-index l.commands
