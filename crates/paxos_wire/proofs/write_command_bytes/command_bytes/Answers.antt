use Rattle.std.proofs.Common.{rules}
use Rattle.paxos_wire.proofs.write_command_bytes.command_bytes.Goals as goal

pub returns-in-Act-clause-text : goal.returns-in-Act-clause-text
returns-in-Act-clause-text c = search rules

pub returns-in-Away-clause-text : goal.returns-in-Away-clause-text
returns-in-Away-clause-text c = search rules
