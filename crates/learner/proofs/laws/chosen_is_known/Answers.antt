use Rattle.learner.proofs.Known.{new_knows, answers_are_known, chosen_are_known}
use Rattle.learner.proofs.laws.chosen_is_known.Goals as goal

pub returns-clause-new : goal.returns-clause-new
returns-clause-new c = new_knows

pub returns-clause-answers : goal.returns-clause-answers
returns-clause-answers c = answers_are_known c.one_more_is_known.ensures

pub returns-clause-chosen : goal.returns-clause-chosen
returns-clause-chosen c = chosen_are_known c.one_more_is_known.ensures
