use Rattle.proposer.proofs.Alone.{one_promise_leads_not}
use Rattle.proposer.proofs.Safe.{quorum_leads, proposes}
use Rattle.proposer.proofs.laws.leaders_propose.Goals as goal

pub returns-clause-quorum : goal.returns-clause-quorum
returns-clause-quorum c = quorum_leads

pub returns-clause-alone : goal.returns-clause-alone
returns-clause-alone c = one_promise_leads_not

pub returns-clause-proposes : goal.returns-clause-proposes
returns-clause-proposes c = proposes
