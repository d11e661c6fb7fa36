use Rattle.std.proofs.Common.{rules}
use Rattle.proposer.proofs.proposer.Proposer.begin.Goals as goal

pub returns-clause-prepare : goal.returns-clause-prepare
returns-clause-prepare c = search rules

pub returns-clause-begun : goal.returns-clause-begun
returns-clause-begun c = search rules
