use Rattle.std.proofs.Common.{arith}
use Rattle.std.proofs.lemmas.Grind.{common_steps}
use Rattle.card_core.proofs.deal.Deal.hole.Goals as goal
use Rattle.card_core.proofs.Parts.{seven-distinct}

pub returns-clause-distinct : goal.returns-clause-distinct
returns-clause-distinct c = seven-distinct _ _ _ c.cards-cards.ensures.deal c.requires

pub returns-clause-value : goal.returns-clause-value
returns-clause-value c = grind (arith, common_steps)
