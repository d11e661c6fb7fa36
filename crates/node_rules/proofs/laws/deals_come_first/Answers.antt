use Rattle.node_rules.proofs.Valued.{deals_come_first}
use Rattle.node_rules.proofs.laws.deals_come_first.Goals as goal

pub returns : goal.returns
returns c = deals_come_first
