use Rattle.std.proofs.Common.{rules}
use Rattle.dealer_node.proofs.node.Node.commands.Goals as goal

pub returns-in-Some-clause-seen : goal.returns-in-Some-clause-seen
returns-in-Some-clause-seen g c = search rules
