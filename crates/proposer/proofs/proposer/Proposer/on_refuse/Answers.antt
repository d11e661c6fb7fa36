use Rattle.std.proofs.Common.{rules}
use Rattle.proposer.proofs.proposer.Proposer.on_refuse.Goals as goal

pub returns-else-outbid : goal.returns-else-outbid
returns-else-outbid c = search rules
