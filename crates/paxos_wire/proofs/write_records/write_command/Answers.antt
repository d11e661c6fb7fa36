use Rattle.std.proofs.Common.{rules}
use Rattle.paxos_wire.proofs.write_records.write_command.Goals as goal

pub returns-in_err-reserve-clause-room : goal.returns-in_err-reserve-clause-room
returns-in_err-reserve-clause-room c = search rules

pub returns-clause-ok : goal.returns-clause-ok
returns-clause-ok c = search rules
