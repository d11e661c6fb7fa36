use Rattle.acceptor.proofs.RunLaws.{runs_append, runs_told, runs_stand, runs_within}
use Rattle.acceptor.proofs.laws.runs_are_kept.Goals as goal

pub returns-clause-appends : goal.returns-clause-appends
returns-clause-appends c = runs_append

pub returns-clause-told : goal.returns-clause-told
returns-clause-told c = runs_told

pub returns-clause-votes : goal.returns-clause-votes
returns-clause-votes c = runs_stand

pub returns-clause-promise : goal.returns-clause-promise
returns-clause-promise c = runs_within
