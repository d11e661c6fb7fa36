use Rattle.relay_runs.proofs.Tellings.{answers_came}
use Rattle.relay_runs.proofs.laws.answers_came.Goals as goal

pub returns : goal.returns
returns c = answers_came c.answers_are_current.ensures
