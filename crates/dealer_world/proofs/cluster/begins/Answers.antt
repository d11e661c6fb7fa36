use Rattle.std.proofs.Common.{rules}
use Rattle.dealer_world.proofs.cluster.begins.Goals as goal

pub returns-in-Start : goal.returns-in-Start
returns-in-Start c = search rules
