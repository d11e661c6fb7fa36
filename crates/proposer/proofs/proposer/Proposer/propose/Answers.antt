use Rattle.std.proofs.Common.{rules}
use Rattle.proposer.proofs.proposer.Proposer.propose.Goals as goal

pub returns-clause-proposal : goal.returns-clause-proposal
returns-clause-proposal c = search rules
