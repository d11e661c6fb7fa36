use Rattle.std.proofs.Common.{rules}
use Rattle.dealer_node.proofs.node.Node.go_down_after.Goals as goal

pub returns : goal.returns
returns g c = search rules
