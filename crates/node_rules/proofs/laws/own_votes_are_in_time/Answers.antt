use Rattle.node_rules.proofs.Counted.{own_votes_are_in_time}
use Rattle.node_rules.proofs.laws.own_votes_are_in_time.Goals as goal

pub returns : goal.returns
returns c = own_votes_are_in_time c.layers_below.ensures
