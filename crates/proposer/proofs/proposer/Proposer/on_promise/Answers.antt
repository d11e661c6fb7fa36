use Rattle.std.proofs.Common.{rules}
use Rattle.proposer.proofs.proposer.Proposer.on_promise.Goals as goal

pub returns : goal.returns
returns c = search rules
