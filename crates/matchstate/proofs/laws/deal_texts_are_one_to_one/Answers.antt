use Rattle.matchstate.proofs.OneField.{deal_texts_are_one_to_one, shown_deals_are_one_to_one}
use Rattle.matchstate.proofs.laws.deal_texts_are_one_to_one.Goals as goal

pub returns-clause-whole : goal.returns-clause-whole
returns-clause-whole c = deal_texts_are_one_to_one

pub returns-clause-shown : goal.returns-clause-shown
returns-clause-shown c = shown_deals_are_one_to_one
