use Rattle.std.proofs.Common.{arith}
use Rattle.std.proofs.lemmas.Grind.{common_steps}
use Rattle.paxos_wire.proofs.write_messages.put_body.Goals as goal

pub returns-in-Promise-clause-items : goal.returns-in-Promise-clause-items
returns-in-Promise-clause-items c = grind (arith, common_steps)

pub returns-in-Refuse-clause-items : goal.returns-in-Refuse-clause-items
returns-in-Refuse-clause-items c = grind (arith, common_steps)
