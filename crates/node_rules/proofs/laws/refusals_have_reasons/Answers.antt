use Rattle.node_rules.proofs.Refused.{refusals_have_reasons}
use Rattle.node_rules.proofs.laws.refusals_have_reasons.Goals as goal

pub returns : goal.returns
returns c = refusals_have_reasons c.layers_below.ensures
