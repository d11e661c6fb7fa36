use Rattle.std.proofs.Common.{rules}
use Rattle.betting.proofs.totals.Totals.no_raise.Goals as goal

pub returns-then-live_count-lt2 : goal.returns-then-live_count-lt2
returns-then-live_count-lt2 c = search rules

pub returns-then-stack-self : goal.returns-then-stack-self
returns-then-stack-self c = search rules

pub returns-else-stack-self : goal.returns-else-stack-self
returns-else-stack-self c = search rules
