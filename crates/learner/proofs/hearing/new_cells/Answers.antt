use Rattle.std.proofs.Common.{ap, ◌∙◌, arith, length, length-append}
use Rattle.learner.specs.Cells.{tallies_in}
use Rattle.learner.proofs.Cells.{one_new}
use Rattle.learner.proofs.hearing.new_cells.Goals as goal

pub loop-preserved : goal.loop-preserved
loop-preserved c = record {
  tallies = ap tallies_in c.in_ok-push.ensures.items ∙ one_new c.loop.counter c.loop.cells.items c.new.result c.loop.invariant.tallies c.new.ensures.items;
  len =
      let pushed = ap length c.in_ok-push.ensures.items ∙ length-append c.loop.cells.items _ in
      let before = c.loop.invariant.len in omega (arith, pushed, before);
}
