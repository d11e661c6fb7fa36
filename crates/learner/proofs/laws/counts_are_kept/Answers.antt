use Rattle.learner.proofs.Kept.{new_counts, new_counts_all, answer_counts, answer_counts_all, passed_over, chosen_counts, chosen_counts_all, nodes_stay}
use Rattle.learner.proofs.laws.counts_are_kept.Goals as goal

pub returns-clause-new : goal.returns-clause-new
returns-clause-new c = new_counts

pub returns-clause-new_all : goal.returns-clause-new_all
returns-clause-new_all c = new_counts_all

pub returns-clause-answer : goal.returns-clause-answer
returns-clause-answer c = answer_counts c.fronts_go_on.ensures

pub returns-clause-answer_all : goal.returns-clause-answer_all
returns-clause-answer_all c = answer_counts_all c.fronts_go_on.ensures

pub returns-clause-others : goal.returns-clause-others
returns-clause-others c = passed_over

pub returns-clause-chosen : goal.returns-clause-chosen
returns-clause-chosen c = chosen_counts c.fronts_go_on.ensures

pub returns-clause-chosen_all : goal.returns-clause-chosen_all
returns-clause-chosen_all c = chosen_counts_all c.fronts_go_on.ensures

pub returns-clause-nodes : goal.returns-clause-nodes
returns-clause-nodes c = nodes_stay
