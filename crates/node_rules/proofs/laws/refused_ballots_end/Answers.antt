use Rattle.node_rules.proofs.Counted.{refused_ballots_end}
use Rattle.node_rules.proofs.laws.refused_ballots_end.Goals as goal

pub returns : goal.returns
returns c = refused_ballots_end c.layers_below.ensures
