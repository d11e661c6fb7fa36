use Rattle.node_service.proofs.Meaning.{left_as_it_is}
use Rattle.node_service.proofs.server.NodeServer.outcome.Goals as goal

pub returns-clause-same : goal.returns-clause-same
returns-clause-same g c = λ well. left_as_it_is c.args.self.now c.left_to_do.result well c.left_to_do.ensures.further c.left_to_do.ensures.over c.left_to_do.ensures.behind
