use Rattle.std.proofs.Common.{arith}
use Rattle.std.proofs.lemmas.Grind.{common_steps}
use Rattle.promise_store.proofs.texts.read_payload.Goals as goal

pub returns-in-1-clause-found : goal.returns-in-1-clause-found
returns-in-1-clause-found c = grind (arith, common_steps)
