use Rattle.std.proofs.Common.{rules}
use Rattle.betting.proofs.totals.blinds.Goals as goal

pub loop-position-preserved : goal.loop-position-preserved
loop-position-preserved c = search rules
