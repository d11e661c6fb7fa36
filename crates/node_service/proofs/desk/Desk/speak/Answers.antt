use Rattle.node_service.proofs.Keeping.{kept_on}
use Rattle.node_service.proofs.desk.Desk.speak.Goals as goal

pub loop-preserved : goal.loop-preserved
loop-preserved g c = kept_on g.W.Wire c.loop.invariant c.write_to_seats.ensures

pub returns-then-not-write_to_seats : goal.returns-then-not-write_to_seats
returns-then-not-write_to_seats g c =
    let written = kept_on g.W.Wire c.flush.ensures (kept_on g.W.Wire c.write_to_askers.ensures (kept_on g.W.Wire c.loop.invariant c.write_to_seats.ensures)) in
    kept_on g.W.Wire c.tell_seats.ensures.kept (kept_on g.W.Wire c.write_to_peers.ensures written)

pub returns : goal.returns
returns g c =
    kept_on g.W.Wire c.tell_seats.ensures.kept
    (kept_on g.W.Wire c.write_to_peers.ensures (kept_on g.W.Wire c.flush.ensures (kept_on g.W.Wire c.write_to_askers.ensures c.loop.invariant)))
