use Rattle.std.proofs.lemmas.Grind.{common_steps}
use Rattle.std.proofs.Common.{rules, arith}
use Rattle.serving.proofs.taking.carry.Goals as goal

pub returns-then-is_for-clause-due : goal.returns-then-is_for-clause-due
returns-then-is_for-clause-due g c = search rules

pub returns-then-is_for-clause-waiting : goal.returns-then-is_for-clause-waiting
returns-then-is_for-clause-waiting g c = grind (arith, common_steps)
