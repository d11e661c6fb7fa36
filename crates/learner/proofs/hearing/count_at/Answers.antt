use Rattle.std.proofs.Common.{◌%◌, List, ap, ◌∙◌, arith, set}
use Rattle.learner.specs.declared.tally.Tally.{Tally}
use Rattle.learner.specs.Tallies.{with_node}
use Rattle.learner.specs.Cells.{tallies_in}
use Rattle.learner.proofs.Cells.{tallies_set, tallies_get, spare_other, spare_less}
use Rattle.learner.proofs.hearing.count_at.Goals as goal

pub returns-clause-tallies : goal.returns-clause-tallies
returns-clause-tallies c =
    tallies_set c.args.cells.now.items (c.args.slot % 64) c.count.new.tallies
    ∙ ap (λ (ts : List Tally). set (tallies_in c.args.cells.now.items) (c.args.slot % 64) ts) (
    c.count.ensures.items
    ∙ ap (with_node c.args.ballot c.args.command.now c.args.from)
    (tallies_get c.args.cells.now.items (c.args.slot % 64) c.index_mut-cell.result.now (omega arith) c.index_mut-cell.ensures.value)
    )

pub returns-clause-others : goal.returns-clause-others
returns-clause-others c place other = let same = spare_other c.args.cells.now.items (c.args.slot % 64) place c.count.new.tallies other in omega (arith, same)

pub returns-clause-taken : goal.returns-clause-taken
returns-clause-taken c place =
    spare_less 1 c.args.cells.now.items (c.args.slot % 64) place c.index_mut-cell.result.now c.count.new.tallies (omega arith) c.index_mut-cell.ensures.value (omega arith)
