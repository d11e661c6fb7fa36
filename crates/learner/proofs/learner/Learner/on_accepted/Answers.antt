use Rattle.std.proofs.Common.{◌%◌, inl, arith, rules, ◌∙◌}
use Rattle.slot_log.proofs.Results.{on_err}
use Rattle.learner.proofs.Rooms.{answers_kept, answers_less, answers_at}
use Rattle.learner.proofs.learner.Learner.on_accepted.Goals as goal

pub returns-in_err-reserve_at-clause-answers : goal.returns-in_err-reserve_at-clause-answers
returns-in_err-reserve_at-clause-answers c =
    let kept = answers_kept c.self.inside c.reserve_at.new.cells.items c.self.view_is c.reserve_at.ensures.len c.reserve_at.ensures.kept in omega (arith, kept)

pub returns-in_err-reserve_at-clause-full : goal.returns-in_err-reserve_at-clause-full
returns-in_err-reserve_at-clause-full c =
    let cells = c.self.invariant.cells in
    let least = answers_at c.self.inside (c.args.slot % 64) c.self.view_is (omega (arith, cells)) in
    let full = c.in_err-reserve_at.ensures.full in
    on_err c.from_residual-in_err-reserve_at.result (inl (omega (arith, least, full)))

pub returns-clause-answers : goal.returns-clause-answers
returns-clause-answers c =
    answers_less 1 c.self.inside c.hear_answer.new.cells.items c.self.view_is (c.hear_answer.ensures.len ∙ c.reserve_at.ensures.len)
    (λ place within. let kept = c.reserve_at.ensures.kept place in let taken = c.hear_answer.ensures.taken place in omega (arith, kept, taken))

pub returns-then-not-is_open-clause-answer : goal.returns-then-not-is_open-clause-answer
returns-then-not-is_open-clause-answer c = search rules
