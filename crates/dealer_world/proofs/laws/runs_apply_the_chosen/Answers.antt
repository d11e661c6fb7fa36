use Rattle.dealer_world.proofs.Applied.{runs_apply_the_chosen}
use Rattle.dealer_world.proofs.laws.runs_apply_the_chosen.Goals as goal

pub returns : goal.returns
returns c = runs_apply_the_chosen c.layers_below.ensures
