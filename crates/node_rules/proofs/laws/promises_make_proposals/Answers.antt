use Rattle.node_rules.proofs.Electing.{promises_make_proposals}
use Rattle.node_rules.proofs.laws.promises_make_proposals.Goals as goal

pub returns : goal.returns
returns c = promises_make_proposals c.layers_below.ensures
