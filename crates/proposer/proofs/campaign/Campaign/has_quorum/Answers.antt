use Rattle.std.specs.Prelude.{nat_lt, ◌*◌}
use Rattle.std.proofs.Common.{◌∙◌, ap}
use Rattle.paxos_wire.specs.NodeSets.{has}
use Rattle.proposer.specs.Campaigns.{has_promised}
use Rattle.proposer.proofs.Promised.{count_same}
use Rattle.proposer.proofs.campaign.Campaign.has_quorum.Goals as goal

pub returns : goal.returns
returns c =
    c.is_quorum.ensures
    ∙ ap (λ k. nat_lt c.args.nodes (2 * k)) (count_same (has c.promised.result) (has_promised c.args.self.now) c.args.nodes c.promised.ensures)
