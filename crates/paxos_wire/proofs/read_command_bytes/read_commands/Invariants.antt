use Rattle.std.proofs.Common.{◌≡◌, ◌-◌, length}
use Rattle.paxos_wire.specs.Reading.{commands_at}
use Rattle.paxos_wire.proofs.Fronts.{with_front}
use Rattle.paxos_wire.proofs.read_command_bytes.read_commands.Given as goal

abbrev pub invariant-loop : goal.invariant-loop
invariant-loop l = record { count : length l.room ≡ l.counter; so_far : with_front l.room (commands_at (l.count - l.counter) l.rest) ≡ commands_at l.count l.bytes }
