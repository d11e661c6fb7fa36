use Rattle.node_rules.proofs.Orders.{orders_are_taken}
use Rattle.node_rules.proofs.laws.orders_are_taken.Goals as goal

pub returns : goal.returns
returns c = orders_are_taken c.layers_below.ensures
