use Rattle.std.proofs.Common.{rules}
use Rattle.paxos_wire.proofs.write_records.write_command_reserved.Goals as goal

pub returns-clause-text : goal.returns-clause-text
returns-clause-text c = search rules

pub returns-clause-command : goal.returns-clause-command
returns-clause-command c = search rules
