use Rattle.node_service.proofs.Keeping.{kept_on}
use Rattle.node_service.proofs.server.NodeServer.note_settings.Goals as goal

pub returns : goal.returns
returns g c =
    kept_on g.W.Wire c.note_setting.ensures
    (kept_on g.W.Wire c.note_setting-2.ensures (kept_on g.W.Wire c.note_setting-3.ensures c.note_tokens.ensures))
