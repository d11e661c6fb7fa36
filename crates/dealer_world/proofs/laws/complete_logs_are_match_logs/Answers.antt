use Rattle.dealer_world.proofs.Reading.{complete_logs}
use Rattle.dealer_world.proofs.laws.complete_logs_are_match_logs.Goals as goal

pub returns : goal.returns
returns c = complete_logs c.draws_are_deals.ensures.deal
