use Rattle.std.proofs.Common.{arith, rules}
use Rattle.std.proofs.lemmas.Grind.{common_steps}
use Rattle.matchstate.proofs.action_text.read_action.Goals as goal

pub returns-in-f-clause-found : goal.returns-in-f-clause-found
returns-in-f-clause-found c = grind (arith, common_steps)

pub returns-in-f-clause-only : goal.returns-in-f-clause-only
returns-in-f-clause-only c = search rules
