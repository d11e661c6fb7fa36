use Rattle.std.proofs.Common.{take}
use Rattle.std.specs.Fmt.{HasWritten, IsPlainFormatter}
use Rattle.std.specs.List.{flat_map}
use Rattle.paxos_wire.specs.Lines.{further_line}
use Rattle.paxos_wire.proofs.print_messages.FurtherLineDisplay.fmt.Given as goal

abbrev pub invariant-loop-command : goal.invariant-loop-command
invariant-loop-command g l = IsPlainFormatter l.initial.f → HasWritten g.W.Write.write_str_gives l.initial.f (flat_map further_line (take l.command-index l.commands)) l.f
