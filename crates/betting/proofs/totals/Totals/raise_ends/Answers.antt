use Rattle.std.proofs.Common.{rules}
use Rattle.betting.proofs.totals.Totals.raise_ends.Goals as goal

pub returns-in-None-clause-least : goal.returns-in-None-clause-least
returns-in-None-clause-least c = search rules
