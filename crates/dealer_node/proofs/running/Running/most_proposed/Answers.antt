use Rattle.std.proofs.Common.{sym, ◌∙◌}
use Rattle.dealer_node.proofs.Proposed.{unled_bounded}
use Rattle.dealer_node.proofs.running.Running.most_proposed.Goals as goal

pub returns-else-is_leading-clause-bounded : goal.returns-else-is_leading-clause-bounded
returns-else-is_leading-clause-bounded c = unled_bounded c.args.self.now.proposer (sym c.is_leading.ensures ∙ c.if-is_leading.false)
