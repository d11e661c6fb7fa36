use Rattle.node_service.specs.Turns.{AreCallersBut}
use Rattle.node_service.proofs.Going.{with_does}
use Rattle.node_service.proofs.Keeping.{goes_kept, kept_on, as_it_was}
use Rattle.node_service.proofs.server.NodeServer.take_callers.Goals as goal

pub returns : goal.returns
returns g c =
    with_does (AreCallersBut c.args.closed c.args.taken.now c.take_rounds-is_all.new.taken) c.take_rounds-is_all.ensures
    (goes_kept g.W.Wire (kept_on g.W.Wire c.note_crowds.ensures (as_it_was g.W.Wire c.note_busy.ensures.kept)))
