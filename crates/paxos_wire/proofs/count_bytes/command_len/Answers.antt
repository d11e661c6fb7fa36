use Rattle.std.proofs.Common.{rules}
use Rattle.paxos_wire.proofs.count_bytes.command_len.Goals as goal

pub returns-in-Act-clause-value : goal.returns-in-Act-clause-value
returns-in-Act-clause-value c = search rules

pub returns-in-Away-clause-value : goal.returns-in-Away-clause-value
returns-in-Away-clause-value c = search rules
