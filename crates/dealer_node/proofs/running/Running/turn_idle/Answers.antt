use Rattle.std.proofs.Common.{ap}
use Rattle.proposer.specs.Campaigns.{Proposing}
use Rattle.dealer_node.proofs.Proposed.{idle_bounded}
use Rattle.dealer_node.proofs.running.Running.turn_idle.Goals as goal

pub returns-clause-bounded : goal.returns-clause-bounded
returns-clause-bounded c = λ most. idle_bounded c.turn_idle.new.self most (ap (λ (p : Proposing). p.campaign) c.turn_idle.ensures)
