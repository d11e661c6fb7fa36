use Rattle.std.proofs.Common.{arith}
use Rattle.std.proofs.lemmas.Grind.{common_steps}
use Rattle.matchstate.proofs.sight.sight.Goals as goal

pub returns-clause-boards : goal.returns-clause-boards
returns-clause-boards c = grind (arith, common_steps)
