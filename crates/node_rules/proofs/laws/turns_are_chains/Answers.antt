use Rattle.node_rules.proofs.Chaining.{turns_are_chains}
use Rattle.node_rules.proofs.laws.turns_are_chains.Goals as goal

pub returns : goal.returns
returns c = turns_are_chains c.layers_below.ensures
