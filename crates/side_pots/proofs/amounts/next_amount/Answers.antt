use Rattle.std.proofs.Common.{arith}
use Rattle.std.proofs.lemmas.Grind.{elements}
use Rattle.side_pots.proofs.amounts.next_amount.Goals as goal

pub loop-position-preserved : goal.loop-position-preserved
loop-position-preserved c = grind (arith, elements)
