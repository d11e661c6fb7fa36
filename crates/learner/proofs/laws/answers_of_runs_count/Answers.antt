use Rattle.learner.proofs.KeptRuns.{run_counts, run_counts_all, run_nodes_stay}
use Rattle.learner.proofs.laws.answers_of_runs_count.Goals as goal

pub returns-clause-counts : goal.returns-clause-counts
returns-clause-counts c = run_counts c.fronts_go_on.ensures

pub returns-clause-counts_all : goal.returns-clause-counts_all
returns-clause-counts_all c = run_counts_all c.fronts_go_on.ensures c.one_more_is_known.ensures c.front_is_first_hole.ensures

pub returns-clause-nodes : goal.returns-clause-nodes
returns-clause-nodes c = run_nodes_stay
