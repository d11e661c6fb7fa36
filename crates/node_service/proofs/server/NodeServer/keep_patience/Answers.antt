use Rattle.node_service.proofs.Keeping.{goes_kept, kept_then}
use Rattle.node_service.proofs.server.NodeServer.keep_patience.Goals as goal

pub returns-in_default : goal.returns-in_default
returns-in_default g c = goes_kept g.W.Wire c.note_sleep.ensures.kept

pub returns-in-Now : goal.returns-in-Now
returns-in-Now g c = kept_then g.W.Wire c.note_sleep.ensures.kept c.order.ensures

pub returns-in-Nothing : goal.returns-in-Nothing
returns-in-Nothing g c = goes_kept g.W.Wire c.note_sleep.ensures.kept
