use Rattle.std.proofs.Common.{rules}
use Rattle.betting.proofs.totals.Totals.limit_to.Goals as goal

pub returns : goal.returns
returns c = search rules
