use Rattle.proposer.proofs.Greatest.{greatest_decides}
use Rattle.proposer.proofs.Safe.{safe}
use Rattle.proposer.proofs.laws.proposals_are_safe.Goals as goal

pub returns-clause-greatest : goal.returns-clause-greatest
returns-clause-greatest c = greatest_decides

pub returns-clause-safe : goal.returns-clause-safe
returns-clause-safe c = safe
