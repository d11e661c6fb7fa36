use Rattle.std.proofs.Common.{rules}
use Rattle.hand_rank.proofs.five.is_straight.Goals as goal

pub returns-then-counts-top-eq1-4 : goal.returns-then-counts-top-eq1-4
returns-then-counts-top-eq1-4 c = search rules
