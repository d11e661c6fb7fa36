-- Votes give way to votes of greater ballots alone.
use Rattle.protocol_model.proofs.Backing.{promise_backs, vote_backs, move_backs, world_backs, world_within}
use Rattle.protocol_model.proofs.laws.backing_lasts.Goals as goal

pub returns-clause-promise : goal.returns-clause-promise
returns-clause-promise c = promise_backs

pub returns-clause-vote : goal.returns-clause-vote
returns-clause-vote c = vote_backs

pub returns-clause-moves : goal.returns-clause-moves
returns-clause-moves c = move_backs

pub returns-clause-left : goal.returns-clause-left
returns-clause-left c = world_backs

pub returns-clause-within : goal.returns-clause-within
returns-clause-within c = world_within
