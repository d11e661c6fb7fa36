use Rattle.std.proofs.Common.{rules}
use Rattle.betting.proofs.totals.Totals.enter.Goals as goal

pub returns-then-round-self : goal.returns-then-round-self
returns-then-round-self c = search rules
