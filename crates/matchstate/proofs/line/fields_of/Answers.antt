use Rattle.std.proofs.Common.{rules}
use Rattle.matchstate.proofs.line.fields_of.Goals as goal

pub returns-clause-found : goal.returns-clause-found
returns-clause-found c = search rules
