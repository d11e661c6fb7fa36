use Rattle.learner.proofs.KeptRuns.{told_is_chosen, runs_are_known}
use Rattle.learner.proofs.laws.command_runs_are_known.Goals as goal

pub returns-clause-chosen : goal.returns-clause-chosen
returns-clause-chosen c = told_is_chosen c.fronts_go_on.ensures c.one_more_is_known.ensures c.front_is_first_hole.ensures

pub returns-clause-known : goal.returns-clause-known
returns-clause-known c = runs_are_known c.fronts_go_on.ensures c.one_more_is_known.ensures c.front_is_first_hole.ensures
