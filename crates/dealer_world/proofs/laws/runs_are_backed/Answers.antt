use Rattle.dealer_world.proofs.Keeping.{runs_are_backed}
use Rattle.dealer_world.proofs.laws.runs_are_backed.Goals as goal

pub returns : goal.returns
returns c = runs_are_backed c.layers_below.ensures c.backing_lasts.ensures.left
