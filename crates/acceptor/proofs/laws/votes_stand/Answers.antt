use Rattle.acceptor.proofs.Votes.{votes_stand, stays_within}
use Rattle.acceptor.proofs.laws.votes_stand.Goals as goal

pub returns-clause-votes : goal.returns-clause-votes
returns-clause-votes c = votes_stand

pub returns-clause-promise : goal.returns-clause-promise
returns-clause-promise c = stays_within
