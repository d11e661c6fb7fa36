use Rattle.std.proofs.Common.{rules}
use Rattle.betting.proofs.totals.Totals.round_after.Goals as goal

pub returns-then-live-gt1-clause-value : goal.returns-then-live-gt1-clause-value
returns-then-live-gt1-clause-value c = search rules

pub returns-else-live-gt1-clause-value : goal.returns-else-live-gt1-clause-value
returns-else-live-gt1-clause-value c = search rules
