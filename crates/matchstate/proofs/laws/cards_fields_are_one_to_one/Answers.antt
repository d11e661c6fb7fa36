use Rattle.matchstate.proofs.OneField.{cards_fields_are_one_to_one, seen_fields_are_one_to_one}
use Rattle.matchstate.proofs.laws.cards_fields_are_one_to_one.Goals as goal

pub returns-clause-in_place : goal.returns-clause-in_place
returns-clause-in_place c = cards_fields_are_one_to_one

pub returns-clause-seen : goal.returns-clause-seen
returns-clause-seen c = seen_fields_are_one_to_one
