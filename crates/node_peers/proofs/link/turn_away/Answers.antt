use Rattle.std.proofs.Common.{true, Some, refl}
use Rattle.node_peers.proofs.Fitting.{keeps_still}
use Rattle.node_peers.proofs.link.turn_away.Goals as goal

pub returns-clause-keeps : goal.returns-clause-keeps
returns-clause-keeps c = keeps_still c.args.link.now (record c.args.link.now { is_turned_away = true; farewell = Some c.args.ballot }) refl refl
