use Rattle.std.proofs.Common.{arith}
use Rattle.deck_draw.proofs.Drawing.{deck_is_pack, draws_deals}
use Rattle.deck_draw.proofs.laws.draws_are_deals.Goals as goal

pub returns-clause-deck : goal.returns-clause-deck
returns-clause-deck c = deck_is_pack

pub returns-clause-deal : goal.returns-clause-deal
returns-clause-deal c seed hand players few = draws_deals seed hand players (omega arith)
