use Rattle.std.proofs.Common.{◌≡◌, ℕ, None}
use Rattle.proposer.specs.Campaigns.{greatest_told}
use Rattle.proposer.proofs.campaign.Campaign.tells_nothing.Given as goal

abbrev pub invariant-loop-node : goal.invariant-loop-node
invariant-loop-node l = (slot : ℕ) → greatest_told l.self slot l.node ≡ None
