use Rattle.std.proofs.Common.{refl}
use Rattle.node_service.proofs.Timing.{looks_on}
use Rattle.node_service.proofs.server.NodeServer.look_at_nodes.Goals as goal

pub loop-number-preserved : goal.loop-number-preserved
loop-number-preserved g c = record {
  same = record { desk = c.loop-number.invariant.same.desk; watch = c.loop-number.invariant.same.watch; reports = c.loop-number.invariant.same.reports; silence = c.loop-number.invariant.same.silence; turn_timer = c.loop-number.invariant.same.turn_timer; acts = c.loop-number.invariant.same.acts; opening = c.loop-number.invariant.same.opening; waking = c.loop-number.invariant.same.waking };
  seen =
      looks_on _ c.loop-number.self c.look_at.new.self c.args.seat c.args.now c.loop-number.number c.seen_at-at.result c.loop-number.self.watch.moved c.loop-number.invariant.same
      c.loop-number.invariant.seen c.seen_at-at.ensures refl c.look_at.ensures;
}
