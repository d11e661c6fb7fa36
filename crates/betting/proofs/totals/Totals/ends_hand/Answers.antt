use Rattle.std.proofs.Common.{rules}
use Rattle.betting.proofs.totals.Totals.ends_hand.Goals as goal

pub returns-then-live-lt2 : goal.returns-then-live-lt2
returns-then-live-lt2 c = search rules

pub returns-else-live-lt2 : goal.returns-else-live-lt2
returns-else-live-lt2 c = search rules
