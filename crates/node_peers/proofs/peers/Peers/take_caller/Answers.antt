use Rattle.node_peers.proofs.Adding.{seats_stay, log_stays, writing_stays}
use Rattle.node_peers.proofs.peers.Peers.take_caller.Goals as goal

pub returns-clause-seats : goal.returns-clause-seats
returns-clause-seats g c = seats_stay _ _ _ _ c.take_one.ensures.grew.1.0

pub returns-clause-log : goal.returns-clause-log
returns-clause-log g c = log_stays _ _ _ _ c.take_one.ensures.grew.1.0

pub returns-clause-writing : goal.returns-clause-writing
returns-clause-writing g c = writing_stays _ _ _ _ c.take_one.ensures.grew.1.0
