-- By induction on what was shown.
use Rattle.protocol_model.proofs.Calling.{joined, lines}
use Rattle.protocol_model.proofs.laws.lines_follow.Goals as goal

pub returns-clause-joined : goal.returns-clause-joined
returns-clause-joined c = joined

pub returns-clause-lines : goal.returns-clause-lines
returns-clause-lines c = lines
