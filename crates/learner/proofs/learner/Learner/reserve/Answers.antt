use Rattle.std.proofs.Common.{inl, arith, ◌∙◌}
use Rattle.std.proofs.lemmas.Result.{on_ok_weaker, on_err_weaker}
use Rattle.learner.proofs.Cells.{room_in_all}
use Rattle.learner.proofs.Rooms.{answers_kept, answers_at}
use Rattle.learner.proofs.learner.Learner.reserve.Goals as goal

pub returns-clause-answers : goal.returns-clause-answers
returns-clause-answers c = on_ok_weaker c.reserve-2.result
    (λ all. let len = c.reserve-2.ensures.len in let cells = c.self.invariant.cells in room_in_all c.args.answers c.reserve-2.new.cells.items (omega (arith, len, cells)) all)
    c.reserve-2.ensures.room

pub returns-clause-kept_answers : goal.returns-clause-kept_answers
returns-clause-kept_answers c = answers_kept c.self.inside c.reserve-2.new.cells.items c.self.view_is c.reserve-2.ensures.len c.reserve-2.ensures.kept

pub returns-clause-full : goal.returns-clause-full
returns-clause-full c = on_err_weaker c.reserve-2.result
    (λ full. let least = answers_at c.self.inside full.0 c.self.view_is full.1 in let few = full.2 in inl (omega (arith, least, few)))
    c.reserve-2.ensures.full
