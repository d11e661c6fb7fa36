use Rattle.std.proofs.Common.{arith}
use Rattle.std.proofs.lemmas.Grind.{common_steps}
use Rattle.side_pots.proofs.amounts.chips_between.Goals as goal

pub loop-amount-preserved : goal.loop-amount-preserved
loop-amount-preserved c = grind (arith, common_steps)
