use Rattle.std.proofs.Common.{refl}
use Rattle.node_peers.proofs.Growing.{grew_on, stayed}
use Rattle.node_peers.proofs.peers.Peers.hear_each.Goals as goal

pub loop-init : goal.loop-init
loop-init g c =
    stayed c.args.self.now.lines c.args.self.now.lines (g.W.Wire.passed c.args.wire.now) (g.W.Wire.passed c.args.wire.now) (refl, (refl, (refl, refl))) refl

pub returns-then-not-hear_next : goal.returns-then-not-hear_next
returns-then-not-hear_next g c =
    grew_on c.args.self.now.lines c.loop.self.lines c.hear_next.new.self.lines (g.W.Wire.passed c.args.wire.now) (g.W.Wire.passed c.loop.wire) (g.W.Wire.passed c.hear_next.new.wire)
    c.loop.invariant c.hear_next.ensures

pub loop-preserved : goal.loop-preserved
loop-preserved g c =
    grew_on c.args.self.now.lines c.loop.self.lines c.hear_next.new.self.lines (g.W.Wire.passed c.args.wire.now) (g.W.Wire.passed c.loop.wire) (g.W.Wire.passed c.hear_next.new.wire)
    c.loop.invariant c.hear_next.ensures
