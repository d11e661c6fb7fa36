use Rattle.node_service.proofs.Keeping.{kept_on, as_it_was}
use Rattle.node_service.proofs.server.NodeServer.look_around.Goals as goal

pub returns : goal.returns
returns g c =
    kept_on g.W.Wire c.now-self.ensures.kept (kept_on g.W.Wire c.set_silence.ensures (kept_on g.W.Wire c.note_quorum.ensures (as_it_was g.W.Wire c.look_at_seats.ensures)))
