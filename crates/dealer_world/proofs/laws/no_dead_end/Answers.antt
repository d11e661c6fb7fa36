use Rattle.dealer_world.proofs.CalmRun.{no_dead_end}
use Rattle.dealer_world.proofs.laws.no_dead_end.Goals as goal

pub returns : goal.returns
returns c = no_dead_end c.layers_below.ensures c.no_dead_end.ensures.ways
