use Rattle.std.proofs.Common.{refl}
use Rattle.node_peers.proofs.Growing.{grew_on, stayed}
use Rattle.node_peers.proofs.peers.Peers.end_stale.Goals as goal

pub loop-place-init : goal.loop-place-init
loop-place-init g c =
    stayed c.args.self.now.lines c.args.self.now.lines (g.W.Wire.passed c.args.wire.now) (g.W.Wire.passed c.args.wire.now) (refl, (refl, (refl, refl))) refl

pub loop-place-preserved : goal.loop-place-preserved
loop-place-preserved g c =
    grew_on c.args.self.now.lines c.end_if_stale.new.self.lines c.end_if_stale.new.self.lines (g.W.Wire.passed c.args.wire.now) (g.W.Wire.passed c.end_if_stale.new.wire) (g.W.Wire.passed c.know.new.wire)
    (grew_on c.args.self.now.lines c.loop-place.self.lines c.end_if_stale.new.self.lines (g.W.Wire.passed c.args.wire.now) (g.W.Wire.passed c.loop-place.wire) (g.W.Wire.passed c.end_if_stale.new.wire) c.loop-place.invariant c.end_if_stale.ensures)
    (stayed c.end_if_stale.new.self.lines c.end_if_stale.new.self.lines (g.W.Wire.passed c.end_if_stale.new.wire) (g.W.Wire.passed c.know.new.wire) (refl, (refl, (refl, refl))) c.know.ensures)
