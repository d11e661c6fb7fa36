use Rattle.std.proofs.Common.{◌%◌, ap, ◌∙◌, arith}
use Rattle.learner.specs.Tallies.{nodes_for}
use Rattle.learner.proofs.Cells.{tallies_get}
use Rattle.learner.proofs.hearing.answered_at.Goals as goal

pub returns : goal.returns
returns c =
    c.nodes_for.ensures
    ∙ ap (nodes_for c.args.ballot c.args.command.now) (c.deref.ensures.value ∙ tallies_get c.args.cells.now (c.args.slot % 64) c.index-cells-slot.result (omega arith) c.index-cells-slot.is)
