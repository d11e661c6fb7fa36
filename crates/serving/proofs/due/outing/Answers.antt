use Rattle.std.proofs.Common.{rules}
use Rattle.serving.proofs.due.outing.Goals as goal

pub returns-in-Some-first_to_stop : goal.returns-in-Some-first_to_stop
returns-in-Some-first_to_stop c = search rules
