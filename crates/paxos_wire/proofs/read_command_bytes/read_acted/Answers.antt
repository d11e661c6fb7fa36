use Rattle.paxos_wire.specs.Reading.{acted_at}
use Rattle.std.proofs.Common.{rules}
use Rattle.paxos_wire.proofs.read_command_bytes.read_acted.Goals as goal

pub returns-in_err-index : goal.returns-in_err-index
unfolding acted_at
returns-in_err-index c = search rules

pub returns-in_err-action : goal.returns-in_err-action
unfolding acted_at
returns-in_err-action c = search rules

pub returns : goal.returns
unfolding acted_at
returns c = search rules
