use Rattle.node_rules.proofs.Prepared.{ticks_prepare}
use Rattle.node_rules.proofs.laws.ticks_prepare.Goals as goal

pub returns : goal.returns
returns c = ticks_prepare c.layers_below.ensures
