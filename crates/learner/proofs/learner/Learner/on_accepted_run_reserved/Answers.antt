use Rattle.std.proofs.Common.{arith}
use Rattle.learner.proofs.Rooms.{answers_less, answers_at}
use Rattle.learner.proofs.learner.Learner.on_accepted_run_reserved.Goals as goal

pub hear_run-requires-clause-cell_room : goal.hear_run-requires-clause-cell_room
hear_run-requires-clause-cell_room c place low =
    let cells = c.self.invariant.cells in
    let least = answers_at c.self.inside place c.self.view_is (omega (arith, cells, low)) in
    omega (arith, least, c.requires.answers)

pub returns-clause-answers : goal.returns-clause-answers
returns-clause-answers c =
    let cells = c.self.invariant.cells in
    answers_less 1 c.self.inside c.hear_run.new.cells.items c.self.view_is c.hear_run.ensures.len (λ place within. c.hear_run.ensures.taken place (omega (arith, cells, within)))
