use Rattle.std.proofs.Common.{arith}
use Rattle.std.proofs.lemmas.Grind.{common_steps}
use Rattle.match_file.proofs.digest.put_deals.Goals as goal

pub loop-deal-preserved : goal.loop-deal-preserved
loop-deal-preserved c = grind (arith, common_steps)
