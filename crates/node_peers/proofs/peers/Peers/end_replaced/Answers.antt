use Rattle.std.proofs.Common.{refl, sym, subst, arith}
use Rattle.node_links.specs.declared.own.Own.{Own}
use Rattle.node_peers.specs.Replacing.{IsClosed}
use Rattle.node_peers.proofs.Growing.{grew_on, stayed}
use Rattle.node_peers.proofs.Fading.{closed_next}
use Rattle.node_peers.proofs.peers.Peers.end_replaced.Goals as goal

pub loop-number-init : goal.loop-number-init
loop-number-init g c = record {
  grew = stayed c.args.self.now.lines c.args.self.now.lines (g.W.Wire.passed c.args.wire.now) (g.W.Wire.passed c.args.wire.now) (refl, (refl, (refl, refl))) refl;
  closed = λ number below. absurd (omega (arith, below));
}

pub loop-number-preserved : goal.loop-number-preserved
loop-number-preserved g c = record {
  grew =
      grew_on c.args.self.now.lines c.loop-number.self.lines c.end_if_replaced.new.self.lines (g.W.Wire.passed c.args.wire.now) (g.W.Wire.passed c.loop-number.wire) (g.W.Wire.passed c.end_if_replaced.new.wire)
      c.loop-number.invariant.grew c.end_if_replaced.ensures.grew;
  closed =
      closed_next c.end_if_replaced.new.self.lines.own c.loop-number.number c.loop-number.self.peers.items c.end_if_replaced.new.self.peers.items c.end_if_replaced.ensures.fade
      (λ number below. subst (λ (o : Own). IsClosed o c.loop-number.self.peers.items number) (sym c.end_if_replaced.ensures.grew.0) (c.loop-number.invariant.closed number below))
      c.end_if_replaced.ensures.closed;
}
