use Rattle.std.proofs.Common.{◌∙◌}
use Rattle.node_status.proofs.Passing.{keeps_on}
use Rattle.node_status.proofs.Asking.{served_on, lines_stay, served_below}
use Rattle.node_status.proofs.askers.Askers.flush.Goals as goal

pub loop-place-preserved : goal.loop-place-preserved
loop-place-preserved g c = record {
  others = keeps_on _ _ _ c.loop-place.invariant.others c.serve.ensures.wrote.others;
  answered = λ so_far. served_on _ _ _ _ _ _ c.serve.ensures (c.loop-place.invariant.answered so_far);
  lines = λ at. lines_stay _ _ _ _ _ _ c.serve.ensures at ∙ c.loop-place.invariant.lines at;
  served = served_below _ _ _ _ _ _ c.serve.ensures c.loop-place.invariant.served;
}
