use Rattle.std.proofs.Common.{rules}
use Rattle.dealer_node.proofs.reading.ReadingIterator.next.Goals as goal

pub invariant_of-self : goal.invariant_of-self
invariant_of-self g c = search rules

pub returns-clause-steps : goal.returns-clause-steps
returns-clause-steps g c = search rules

pub returns-clause-goes : goal.returns-clause-goes
returns-clause-goes g c = search rules
