use Rattle.std.proofs.Common.{rules}
use Rattle.proposer.proofs.campaign.better.Goals as goal

pub returns-else-is_below : goal.returns-else-is_below
returns-else-is_below c = search rules
