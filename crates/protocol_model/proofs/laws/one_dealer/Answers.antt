-- By what stands behind each text that was shown, and the facts about messages.
use Rattle.protocol_model.proofs.Dealing.{one_dealer, chosen_has_origin}
use Rattle.protocol_model.proofs.laws.one_dealer.Goals as goal

pub returns-clause-list : goal.returns-clause-list
returns-clause-list c = one_dealer

pub returns-clause-origin : goal.returns-clause-origin
returns-clause-origin c = chosen_has_origin
