use Rattle.std.proofs.Common.{arith, rules}
use Rattle.std.proofs.lemmas.Grind.{common_steps}
use Rattle.match_runs.proofs.refusals.last_colon.Goals as goal

pub loop-place-init : goal.loop-place-init
loop-place-init c = grind (arith, common_steps)

pub returns-clause-missing : goal.returns-clause-missing
returns-clause-missing c = search rules
