use Rattle.acceptor.proofs.Votes.{promises_above, refuses_others, accepts_at_most, refuses_below}
use Rattle.acceptor.proofs.laws.answers_are_kept.Goals as goal

pub returns-clause-promises : goal.returns-clause-promises
returns-clause-promises c = promises_above

pub returns-clause-refuses : goal.returns-clause-refuses
returns-clause-refuses c = refuses_others

pub returns-clause-accepts : goal.returns-clause-accepts
returns-clause-accepts c = accepts_at_most

pub returns-clause-refuses_below : goal.returns-clause-refuses_below
returns-clause-refuses_below c = refuses_below
