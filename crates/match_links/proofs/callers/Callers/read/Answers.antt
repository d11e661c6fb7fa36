use Rattle.match_links.proofs.Passed.{lines_when_came, log_when_came}
use Rattle.std.proofs.Common.{arith}
use Rattle.std.proofs.lemmas.Grind.{elements}
use Rattle.match_links.proofs.callers.Callers.read.Goals as goal

pub returns-in-Some-clause-given : goal.returns-in-Some-clause-given
returns-in-Some-clause-given c = grind (arith, elements, lines_when_came, log_when_came)
