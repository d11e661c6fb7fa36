use Rattle.std.proofs.lemmas.Grind.{elements, common_steps}
use Rattle.std.proofs.Common.{rules, arith}
use Rattle.card_core.proofs.deal.Deal.new.Goals as goal

pub returns-then-not-are_distinct-clause-wrong_count :
    goal.returns-then-not-are_distinct-clause-wrong_count
returns-then-not-are_distinct-clause-wrong_count c = search rules

pub returns-then-not-are_distinct-clause-repeated :
    goal.returns-then-not-are_distinct-clause-repeated
returns-then-not-are_distinct-clause-repeated c = search rules

pub invariant_of-result : goal.invariant_of-result
invariant_of-result c = grind (arith, elements)

pub returns-clause-ok : goal.returns-clause-ok
returns-clause-ok c = search rules

pub returns-clause-value : goal.returns-clause-value
returns-clause-value c = grind (arith, common_steps)

pub returns-clause-deal : goal.returns-clause-deal
returns-clause-deal c = search rules

pub returns-clause-wrong_count : goal.returns-clause-wrong_count
returns-clause-wrong_count c = search rules

pub returns-then-not-are_distinct-clause-ok : goal.returns-then-not-are_distinct-clause-ok
returns-then-not-are_distinct-clause-ok c = search rules

pub returns-clause-repeated : goal.returns-clause-repeated
returns-clause-repeated c = search rules
