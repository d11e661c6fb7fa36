use Rattle.std.proofs.Common.{arith}
use Rattle.std.proofs.lemmas.Grind.{elements}
use Rattle.matchstate.proofs.betting_field.put_action.Goals as goal

pub returns-clause-items : goal.returns-clause-items
returns-clause-items c = grind (arith, elements)
