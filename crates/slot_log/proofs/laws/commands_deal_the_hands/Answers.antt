use Rattle.slot_log.proofs.Played.{commands_deal_the_hands}
use Rattle.slot_log.proofs.laws.commands_deal_the_hands.Goals as goal

pub returns : goal.returns
returns c = commands_deal_the_hands
