use Rattle.std.proofs.Common.{◌%◌, arith, rules}
use Rattle.learner.proofs.Rooms.{answers_less, answers_at}
use Rattle.learner.proofs.learner.Learner.on_accepted_reserved.Goals as goal

pub hear_answer-requires-clause-cell_room : goal.hear_answer-requires-clause-cell_room
hear_answer-requires-clause-cell_room c =
    let cells = c.self.invariant.cells in
    let least = answers_at c.self.inside (c.args.slot % 64) c.self.view_is (omega (arith, cells)) in
    omega (arith, least, c.requires.answers)

pub returns-clause-answers : goal.returns-clause-answers
returns-clause-answers c = answers_less 1 c.self.inside c.hear_answer.new.cells.items c.self.view_is c.hear_answer.ensures.len (λ place within. c.hear_answer.ensures.taken place)

pub returns-then-not-is_open-clause-answer : goal.returns-then-not-is_open-clause-answer
returns-then-not-is_open-clause-answer c = search rules
