use Rattle.std.proofs.Common.{Some, refl}
use Rattle.node_peers.proofs.Fitting.{keeps_settled}
use Rattle.node_peers.proofs.link.settle.Goals as goal

pub returns-then-was_open-clause-fits : goal.returns-then-was_open-clause-fits
returns-then-was_open-clause-fits c = keeps_settled c.args.own.now c.args.dialled c.args.link.now (record c.args.link.now { said = Some c.args.from; connection = c.settle.new.self }) refl c.settle.ensures.goes c.settle.ensures.speaks

pub returns-clause-fits : goal.returns-clause-fits
returns-clause-fits c = keeps_settled c.args.own.now c.args.dialled c.args.link.now (record c.args.link.now { said = Some c.args.from; connection = c.settle.new.self }) refl c.settle.ensures.goes c.settle.ensures.speaks
