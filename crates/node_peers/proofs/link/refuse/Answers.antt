use Rattle.std.proofs.Common.{true, refl}
use Rattle.node_peers.proofs.Fitting.{keeps_still}
use Rattle.node_peers.proofs.link.refuse.Goals as goal

pub returns : goal.returns
returns c = keeps_still c.args.link.now (record c.args.link.now { is_refused = true }) refl refl
