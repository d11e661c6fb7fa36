use Rattle.std.proofs.Common.{arith}
use Rattle.dealer_node.proofs.Ahead.{few_ahead}
use Rattle.dealer_node.proofs.running.ahead.Goals as goal

pub returns-clause-most : goal.returns-clause-most
returns-clause-most c = omega (arith, few_ahead c.args.log.now.log c.limits.ensures, c.ahead.ensures)
