use Rattle.std.proofs.Common.{arith}
use Rattle.std.proofs.lemmas.Grind.{common_steps}
use Rattle.paxos_wire.proofs.write_command_bytes.push_action.Goals as goal

pub returns : goal.returns
returns c = grind (arith, common_steps)
