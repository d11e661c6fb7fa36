use Rattle.std.proofs.Common.{rules}
use Rattle.proposer.proofs.campaign.Campaign.on_promise.Goals as goal

pub returns-then-is_none : goal.returns-then-is_none
returns-then-is_none c = search rules
