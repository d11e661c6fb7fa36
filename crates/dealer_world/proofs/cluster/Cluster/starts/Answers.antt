use Rattle.std.proofs.Common.{rules}
use Rattle.dealer_world.proofs.cluster.Cluster.starts.Goals as goal

pub returns : goal.returns
returns g c = search rules
