use Rattle.proposer.proofs.Promised.{AreAdded}
use Rattle.proposer.proofs.campaign.Campaign.promised.Given as goal

abbrev pub invariant-loop-node : goal.invariant-loop-node
invariant-loop-node l = AreAdded l.self l.promised l.node
