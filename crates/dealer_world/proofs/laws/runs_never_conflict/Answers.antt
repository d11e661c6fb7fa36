use Rattle.dealer_world.proofs.Conflicts.{runs_never_conflict}
use Rattle.dealer_world.proofs.laws.runs_never_conflict.Goals as goal

pub returns : goal.returns
returns c = runs_never_conflict c.layers_below.ensures c.refusals_have_reasons.ensures
