use Rattle.std.proofs.Common.{rules}
use Rattle.betting.proofs.totals.Totals.is_live.Goals as goal

pub returns-then-not-self-position : goal.returns-then-not-self-position
returns-then-not-self-position c = search rules
