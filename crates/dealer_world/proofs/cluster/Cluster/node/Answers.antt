use Rattle.std.proofs.Common.{arith}
use Rattle.std.proofs.lemmas.Grind.{elements}
use Rattle.dealer_world.proofs.cluster.Cluster.node.Goals as goal

pub returns : goal.returns
returns g c = grind (arith, elements)
