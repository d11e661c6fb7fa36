use Rattle.std.proofs.Common.{rules}
use Rattle.learner.proofs.Rooms.{answers_kept}
use Rattle.learner.proofs.learner.Learner.on_chosen_reserved.Goals as goal

pub returns-clause-answers : goal.returns-clause-answers
returns-clause-answers c = answers_kept c.self.inside c.believe.new.cells.items c.self.view_is c.believe.ensures.len c.believe.ensures.kept

pub returns-then-not-is_open-clause-answer : goal.returns-then-not-is_open-clause-answer
returns-then-not-is_open-clause-answer c = search rules
