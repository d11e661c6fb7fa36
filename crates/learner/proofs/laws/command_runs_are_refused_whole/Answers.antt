use Rattle.learner.proofs.KeptRuns.{refused_by_one, refused_is_unchanged, one_is_an_answer}
use Rattle.learner.proofs.laws.command_runs_are_refused_whole.Goals as goal

pub returns-clause-refused : goal.returns-clause-refused
returns-clause-refused c = refused_by_one

pub returns-clause-unchanged : goal.returns-clause-unchanged
returns-clause-unchanged c = refused_is_unchanged

pub returns-clause-one : goal.returns-clause-one
returns-clause-one c = one_is_an_answer
