use Rattle.std.proofs.Common.{rules}
use Rattle.matchstate.proofs.sight.hole_in_sight.Goals as goal

pub returns-then-is_in_sight : goal.returns-then-is_in_sight
returns-then-is_in_sight c = search rules
