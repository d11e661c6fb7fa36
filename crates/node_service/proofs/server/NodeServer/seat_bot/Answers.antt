use Rattle.node_service.proofs.Keeping.{then_kept}
use Rattle.node_service.proofs.server.NodeServer.seat_bot.Goals as goal

pub returns : goal.returns
returns g c = then_kept g.W.Wire c.call.ensures.goes c.hang_up.ensures.kept

pub returns-in-Some-Ok : goal.returns-in-Some-Ok
returns-in-Some-Ok g c = then_kept g.W.Wire c.call.ensures.goes c.note_seated.ensures
