use Rattle.std.proofs.Common.{rules}
use Rattle.proposer.proofs.campaign.Campaign.propose.Goals as goal

pub returns-in-None-value-clause-proposal : goal.returns-in-None-value-clause-proposal
returns-in-None-value-clause-proposal c = search rules

pub returns-in-Some-value-clause-proposal : goal.returns-in-Some-value-clause-proposal
returns-in-Some-value-clause-proposal c = search rules

pub returns-then-self-place-clause-proposal : goal.returns-then-self-place-clause-proposal
returns-then-self-place-clause-proposal c = search rules

pub returns-in-Some-value-clause-marked : goal.returns-in-Some-value-clause-marked
returns-in-Some-value-clause-marked c = search rules
