use Rattle.node_service.proofs.Timing.{kept_at_all, kept_further, looks_at_none, looks_at_one}
use Rattle.node_service.proofs.server.NodeServer.look_at_each.Goals as goal

pub loop-seat-init : goal.loop-seat-init
loop-seat-init g c = record { same = kept_at_all _; looks = looks_at_none _ _ }

pub loop-seat-preserved : goal.loop-seat-preserved
loop-seat-preserved g c = record {
  same = kept_further _ c.loop-seat.self _ c.loop-seat.invariant.same c.look_at_seat.ensures.same;
  looks =
      looks_at_one _ c.loop-seat.self c.look_at_seat.new.self.seat_watches c.loop-seat.seat _ c.loop-seat.invariant.same c.loop-seat.invariant.looks
      c.look_at_seat.ensures.seen;
}
