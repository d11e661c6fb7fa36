use Rattle.std.proofs.Common.{refl}
use Rattle.node_peers.proofs.Fitting.{keeps_still}
use Rattle.node_peers.proofs.link.set_farewell.Goals as goal

pub returns : goal.returns
returns c = keeps_still c.args.link.now (record c.args.link.now { farewell = c.args.farewell }) refl refl
