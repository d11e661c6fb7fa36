use Rattle.std.proofs.Common.{refl}
use Rattle.node_peers.proofs.Fitting.{keeps_as}
use Rattle.node_peers.proofs.link.answer.Goals as goal

pub returns : goal.returns
returns c = keeps_as c.args.link.now (record c.args.link.now { connection = c.answer.new.self }) c.args.own refl c.answer.ensures.goes c.answer.ensures.speaks
