use Rattle.std.proofs.Common.{rules}
use Rattle.matchstate.proofs.seating.position_of.Goals as goal

pub returns-clause-value : goal.returns-clause-value
returns-clause-value c = search rules
