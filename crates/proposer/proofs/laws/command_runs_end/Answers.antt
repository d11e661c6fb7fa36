use Rattle.proposer.proofs.SafeRuns.{run_ends, none_told_is_free}
use Rattle.proposer.proofs.laws.command_runs_end.Goals as goal

pub returns-clause-ends : goal.returns-clause-ends
returns-clause-ends c = run_ends

pub returns-clause-free : goal.returns-clause-free
returns-clause-free c = none_told_is_free
