use Rattle.std.proofs.Common.{rules}
use Rattle.card_core.proofs.card.Card.rank.Goals as goal

pub returns-clause-value : goal.returns-clause-value
returns-clause-value c = search rules
