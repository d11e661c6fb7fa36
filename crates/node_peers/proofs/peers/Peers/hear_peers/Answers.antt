use Rattle.std.proofs.Common.{refl}
use Rattle.node_peers.proofs.Growing.{grew_on, stayed}
use Rattle.node_peers.proofs.peers.Peers.hear_peers.Goals as goal

pub loop-place-init : goal.loop-place-init
loop-place-init g c =
    stayed c.args.self.now.lines c.args.self.now.lines (g.W.Wire.passed c.args.wire.now) (g.W.Wire.passed c.args.wire.now) (refl, (refl, (refl, refl))) refl

pub loop-place-preserved : goal.loop-place-preserved
loop-place-preserved g c =
    grew_on c.args.self.now.lines c.loop-place.self.lines c.hear_joined.new.self.lines (g.W.Wire.passed c.args.wire.now) (g.W.Wire.passed c.loop-place.wire) (g.W.Wire.passed c.hear_joined.new.wire)
    c.loop-place.invariant c.hear_joined.ensures
