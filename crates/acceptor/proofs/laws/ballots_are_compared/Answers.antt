use Rattle.acceptor.proofs.Ballots.{below_is_tested, same_is_tested}
use Rattle.acceptor.proofs.laws.ballots_are_compared.Goals as goal

pub returns-clause-below : goal.returns-clause-below
returns-clause-below c = below_is_tested

pub returns-clause-same : goal.returns-clause-same
returns-clause-same c = same_is_tested
