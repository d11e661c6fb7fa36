use Rattle.proposer.proofs.SafeRuns.{run_counts, run_counts_all, run_marks, run_stays}
use Rattle.proposer.proofs.laws.command_runs_are_marked.Goals as goal

pub returns-clause-counts : goal.returns-clause-counts
returns-clause-counts c n has campaign slot own = run_counts has campaign _

pub returns-clause-counts_all : goal.returns-clause-counts_all
returns-clause-counts_all c n has campaign slot own = run_counts_all n has campaign _

pub returns-clause-marks : goal.returns-clause-marks
returns-clause-marks c = run_marks

pub returns-clause-stays : goal.returns-clause-stays
returns-clause-stays c n campaign slot own = run_stays campaign _
