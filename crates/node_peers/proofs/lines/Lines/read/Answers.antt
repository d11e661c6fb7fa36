use Rattle.node_peers.proofs.Fitting.{are_told_through, are_aside_through}
use Rattle.node_peers.proofs.lines.Lines.read.Goals as goal

pub invariant_of-self : goal.invariant_of-self
invariant_of-self g c = record { fits = c.read_at.ensures.fits c.args.self.now.own c.args.self.now.sent.items c.args.self.now.fits; told = are_told_through c.args.self.now.own c.args.self.now.passed.items c.read_at.new.passed.items (g.W.Wire.passed c.args.wire.now) (g.W.Wire.passed c.read_at.new.wire) c.args.self.now.notices.items c.read_at.ensures.grows c.args.self.now.told; late = are_aside_through c.args.self.now.own c.args.self.now.passed.items c.read_at.new.passed.items (g.W.Wire.passed c.args.wire.now) (g.W.Wire.passed c.read_at.new.wire) c.args.self.now.aside.frames.items c.read_at.ensures.grows c.args.self.now.late }
