use Rattle.matchstate.proofs.Growing.{beginnings_are_alike, alike_throughout}
use Rattle.matchstate.proofs.laws.beginnings_are_alike.Goals as goal

pub returns-clause-alike : goal.returns-clause-alike
returns-clause-alike c = beginnings_are_alike c.allowed_without_fault.ensures

pub returns-clause-lines : goal.returns-clause-lines
returns-clause-lines c = alike_throughout c.allowed_without_fault.ensures
