use Rattle.dealer_world.proofs.EndRuns.{runs_can_end}
use Rattle.dealer_world.proofs.laws.runs_can_end.Goals as goal

pub returns : goal.returns
returns c = runs_can_end c.layers_below.ensures c.draws_are_deals.ensures.deal c.matches_can_end.ensures
