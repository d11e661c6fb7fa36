use Rattle.node_rules.proofs.Ending.{matches_can_end}
use Rattle.node_rules.proofs.laws.matches_can_end.Goals as goal

pub returns : goal.returns
returns c = matches_can_end c.layers_below.ensures c.one_dealer.ensures.list c.hands_end.ensures
