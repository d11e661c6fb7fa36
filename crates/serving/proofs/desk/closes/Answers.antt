use Rattle.std.proofs.Common.{rules}
use Rattle.serving.proofs.desk.closes.Goals as goal

pub returns-in_default : goal.returns-in_default
returns-in_default c = search rules
