use Rattle.node_rules.proofs.Created.{created_is_new}
use Rattle.node_rules.proofs.laws.created_is_new.Goals as goal

pub returns : goal.returns
returns c = created_is_new
