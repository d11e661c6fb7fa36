use Rattle.std.proofs.Common.{rules}
use Rattle.dealer_node.proofs.node.Node.failures.Goals as goal

pub returns-in-Some-default : goal.returns-in-Some-default
returns-in-Some-default g c = search rules
