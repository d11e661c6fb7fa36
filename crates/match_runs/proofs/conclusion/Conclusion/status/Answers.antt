use Rattle.std.proofs.Common.{rules}
use Rattle.match_runs.proofs.conclusion.Conclusion.status.Goals as goal

pub returns-in-Served : goal.returns-in-Served
returns-in-Served c = search rules
