use Rattle.std.proofs.Common.{not, ap, ◌∙◌}
use Rattle.learner.specs.Learning.{is_other}
use Rattle.learner.proofs.Same.{test_is}
use Rattle.learner.proofs.hearing.is_other.Goals as goal

pub returns-in-Some : goal.returns-in-Some
returns-in-Some c =
    ap not (test_is c.in-Some.known.now c.args.command.now c.is_same.result c.is_same.ensures)
    ∙ ap (λ known. is_other known c.args.command.now) c.in-Some.ensures
