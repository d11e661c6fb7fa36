use Rattle.std.proofs.Common.{rules}
use Rattle.dealer_world.proofs.cluster.Cluster.piece_count.Goals as goal

pub returns : goal.returns
returns g c = search rules
