use Rattle.std.proofs.Common.{refl}
use Rattle.node_peers.proofs.Growing.{grew_on, stayed}
use Rattle.node_peers.proofs.peers.Peers.write.Goals as goal

pub loop-init : goal.loop-init
loop-init g c =
    stayed c.args.self.now.lines c.args.self.now.lines (g.W.Wire.passed c.args.wire.now) (g.W.Wire.passed c.args.wire.now) (refl, (refl, (refl, refl))) refl

pub returns-in-Nothing : goal.returns-in-Nothing
returns-in-Nothing g c =
    grew_on c.args.self.now.lines c.loop.self.lines c.write_next.new.self.lines (g.W.Wire.passed c.args.wire.now) (g.W.Wire.passed c.loop.wire) (g.W.Wire.passed c.write_next.new.wire)
    c.loop.invariant c.write_next.ensures

pub returns-in-Later : goal.returns-in-Later
returns-in-Later g c =
    grew_on c.args.self.now.lines c.loop.self.lines c.write_next.new.self.lines (g.W.Wire.passed c.args.wire.now) (g.W.Wire.passed c.loop.wire) (g.W.Wire.passed c.write_next.new.wire)
    c.loop.invariant c.write_next.ensures

pub returns-in-Ended : goal.returns-in-Ended
returns-in-Ended g c =
    grew_on c.args.self.now.lines c.loop.self.lines c.write_next.new.self.lines (g.W.Wire.passed c.args.wire.now) (g.W.Wire.passed c.loop.wire) (g.W.Wire.passed c.write_next.new.wire)
    c.loop.invariant c.write_next.ensures

pub loop-preserved : goal.loop-preserved
loop-preserved g c =
    grew_on c.args.self.now.lines c.write_next.new.self.lines c.note_written.new.self.lines (g.W.Wire.passed c.args.wire.now) (g.W.Wire.passed c.write_next.new.wire) (g.W.Wire.passed c.write_next.new.wire)
    (grew_on c.args.self.now.lines c.loop.self.lines c.write_next.new.self.lines (g.W.Wire.passed c.args.wire.now) (g.W.Wire.passed c.loop.wire) (g.W.Wire.passed c.write_next.new.wire) c.loop.invariant c.write_next.ensures)
    (stayed c.write_next.new.self.lines c.note_written.new.self.lines (g.W.Wire.passed c.write_next.new.wire) (g.W.Wire.passed c.write_next.new.wire) c.note_written.ensures refl)
