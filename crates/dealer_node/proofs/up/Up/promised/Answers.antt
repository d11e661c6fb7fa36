use Rattle.std.proofs.Common.{◌∙◌, ap}
use Rattle.dealer_node.specs.Seeing.{promised_ballot}
use Rattle.dealer_node.proofs.up.Up.promised.Goals as goal

pub returns : goal.returns
returns g c = λ member s honest up. c.promised_ballot.ensures ∙ ap promised_ballot (c.promised.ensures.kept _ s.store up.keeps honest)
