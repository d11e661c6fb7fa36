use Rattle.std.proofs.Common.{refl}
use Rattle.node_peers.proofs.Fitting.{keeps_on}
use Rattle.node_peers.proofs.link.next_of.Goals as goal

pub returns-clause-keeps : goal.returns-clause-keeps
returns-clause-keeps c = keeps_on c.args.link.now (record c.args.link.now { connection = c.next.new.self }) refl c.next.ensures.goes c.next.ensures.speaks
