use Rattle.std.proofs.Common.{rules}
use Rattle.learner.proofs.hearing.is_open.Goals as goal

pub returns-then-slot-front : goal.returns-then-slot-front
returns-then-slot-front c = search rules
