use Rattle.std.proofs.Common.{rules}
use Rattle.betting.proofs.totals.Totals.raise.Goals as goal

pub returns : goal.returns
returns c = search rules
