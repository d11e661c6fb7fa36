use Rattle.std.proofs.Common.{rules}
use Rattle.matchstate.proofs.number.put_number.Goals as goal

pub returns-clause-items : goal.returns-clause-items
returns-clause-items c = search rules
