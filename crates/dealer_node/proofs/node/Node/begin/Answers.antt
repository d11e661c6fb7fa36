use Rattle.std.proofs.Common.{rules}
use Rattle.dealer_node.proofs.node.Node.begin.Goals as goal

pub returns-clause-begun : goal.returns-clause-begun
returns-clause-begun g c = search rules
