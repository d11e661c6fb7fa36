use Rattle.std.proofs.Common.{rules}
use Rattle.matchstate.proofs.betting_field.betting_text.Goals as goal

pub returns-clause-ok : goal.returns-clause-ok
returns-clause-ok c = search rules
