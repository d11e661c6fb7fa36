use Rattle.std.proofs.Common.{rules}
use Rattle.betting.proofs.totals.Totals.looks_from.Goals as goal

pub returns-else-round-self-clause-value : goal.returns-else-round-self-clause-value
returns-else-round-self-clause-value c = search rules
