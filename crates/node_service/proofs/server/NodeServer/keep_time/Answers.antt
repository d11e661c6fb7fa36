use Rattle.node_service.proofs.Going.{does_on}
use Rattle.node_service.proofs.Keeping.{kept_then}
use Rattle.node_service.proofs.server.NodeServer.keep_time.Goals as goal

pub returns : goal.returns
returns g c = kept_then g.W.Wire c.look_around.ensures (does_on c.tick_if_due-until_tick.ensures c.keep_patience.ensures)
