use Rattle.relay_runs.proofs.Courses.{courses_explain}
use Rattle.relay_runs.proofs.laws.courses_explain.Goals as goal

pub returns : goal.returns
returns c = courses_explain
