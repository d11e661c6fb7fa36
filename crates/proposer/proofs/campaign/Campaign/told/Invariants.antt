use Rattle.std.proofs.Common.{◌≡◌}
use Rattle.proposer.specs.Campaigns.{greatest_told}
use Rattle.proposer.proofs.campaign.Campaign.told.Given as goal

abbrev pub invariant-loop-node : goal.invariant-loop-node
invariant-loop-node l = l.best ≡ greatest_told l.self l.slot l.node
