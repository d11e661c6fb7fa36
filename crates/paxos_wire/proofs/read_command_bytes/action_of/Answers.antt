use Rattle.paxos_wire.specs.Reading.{action_of}
use Rattle.std.proofs.Common.{rules}
use Rattle.paxos_wire.proofs.read_command_bytes.action_of.Goals as goal

pub returns-in-0 : goal.returns-in-0
unfolding action_of
returns-in-0 c = search rules
