use Rattle.node_service.proofs.Keeping.{kept_on}
use Rattle.node_service.proofs.server.NodeServer.note_quorum.Goals as goal

pub returns-in-Had : goal.returns-in-Had
returns-in-Had g c = kept_on g.W.Wire c.stand.ensures.kept (kept_on g.W.Wire c.note_joined_seats.ensures c.tell.ensures)

pub returns-in-Lost : goal.returns-in-Lost
returns-in-Lost g c = kept_on g.W.Wire c.stand.ensures.kept c.tell-in-Lost.ensures
