use Rattle.std.proofs.Common.{rules}
use Rattle.serving.proofs.due.first_due.Goals as goal

pub returns-in-Some-outing : goal.returns-in-Some-outing
returns-in-Some-outing c = search rules
