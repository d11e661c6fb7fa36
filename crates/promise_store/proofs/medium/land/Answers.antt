use Rattle.std.proofs.Common.{arith}
use Rattle.std.proofs.lemmas.Grind.{common_steps}
use Rattle.promise_store.proofs.medium.land.Goals as goal

pub returns-in-1-clause-landed : goal.returns-in-1-clause-landed
returns-in-1-clause-landed c = grind (arith, common_steps)
