use Rattle.acceptor.proofs.Votes.{prepares_are_moves, accepts_are_moves}
use Rattle.acceptor.proofs.laws.stores_are_moves.Goals as goal

pub returns-clause-prepares : goal.returns-clause-prepares
returns-clause-prepares c = prepares_are_moves

pub returns-clause-accepts : goal.returns-clause-accepts
returns-clause-accepts c = accepts_are_moves
