use Rattle.std.proofs.Common.{rules}
use Rattle.card_core.proofs.card.Card.from_number.Goals as goal

pub returns : goal.returns
returns c = search rules
