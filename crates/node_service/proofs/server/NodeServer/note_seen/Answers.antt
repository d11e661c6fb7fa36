use Rattle.node_service.proofs.Keeping.{kept_on}
use Rattle.node_service.proofs.server.NodeServer.note_seen.Goals as goal

pub returns-in-Some : goal.returns-in-Some
returns-in-Some g c = kept_on g.W.Wire c.forgive.ensures c.note_leader.ensures
