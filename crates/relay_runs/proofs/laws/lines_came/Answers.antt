use Rattle.relay_runs.proofs.Courses.{lines_came}
use Rattle.relay_runs.proofs.laws.lines_came.Goals as goal

pub returns : goal.returns
returns c = lines_came
