use Rattle.std.proofs.Common.{rules}
use Rattle.dealer_node.proofs.fault.NodeFaultDisplay.fmt.Goals as goal

pub returns-in-Store-clause-writes : goal.returns-in-Store-clause-writes
returns-in-Store-clause-writes g c = search rules
