use Rattle.dealer_node.proofs.Proposed.{refused_bounded}
use Rattle.dealer_node.proofs.running.Running.hear_refusal.Goals as goal

pub returns-clause-bounded : goal.returns-clause-bounded
returns-clause-bounded c = refused_bounded c.args.self.now.proposer c.on_refuse.new.self c.args.promised c.on_refuse.ensures
