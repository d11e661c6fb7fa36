use Rattle.std.proofs.Common.{refl}
use Rattle.node_peers.proofs.Fitting.{keeps_saying}
use Rattle.node_peers.proofs.link.begin.Goals as goal

pub returns-clause-keeps : goal.returns-clause-keeps
returns-clause-keeps c = keeps_saying c.args.link.now (record c.args.link.now { connection = c.begin.new.self }) c.args.waiting.now.frames refl c.begin.ensures.goes c.begin.ensures.speaks
