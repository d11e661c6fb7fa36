use Rattle.dealer_world.proofs.CalmCluster.{moves_at_rest}
use Rattle.dealer_world.proofs.laws.clusters_at_rest_move.Goals as goal

pub returns : goal.returns
returns g c = moves_at_rest g.D.Disk c.no_dead_end.ensures.calm
