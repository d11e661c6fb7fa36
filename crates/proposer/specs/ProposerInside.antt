-- What the fields of a proposer keep.
use Rattle.std.specs.Prelude.{◌<◌, ◌≤◌}
use Rattle.paxos_wire.specs.declared.limits.TheConstants.{NODES}
use Rattle.proposer.specs.Campaigns.{Proposing}
use Rattle.proposer.specs.declared.proposer.Proposer.TheInside.{Inside}

abbrev pub proposing_of : Inside → Proposing
proposing_of p = record { node = p.node; nodes = p.nodes; campaign = p.campaign }

pub record IsKept (p : Inside) : Type 0 where
  pub node : p.node < p.nodes
  pub few : p.nodes ≤ NODES
