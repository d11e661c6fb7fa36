use Rattle.dealer_world.proofs.CalmRun.{rounds_move_on}
use Rattle.dealer_world.proofs.laws.rounds_move_on.Goals as goal

pub returns : goal.returns
returns c = rounds_move_on c.no_dead_end.ensures c.no_dead_end-2.ensures.calm
