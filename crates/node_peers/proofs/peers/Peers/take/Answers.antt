use Rattle.node_peers.proofs.Growing.{grew_on}
use Rattle.node_peers.proofs.peers.Peers.take.Goals as goal

pub returns-clause-grew : goal.returns-clause-grew
returns-clause-grew g c =
    grew_on c.args.self.now.lines c.dial_all.new.self.lines c.end_replaced.new.self.lines (g.W.Wire.passed c.args.wire.now) (g.W.Wire.passed c.dial_all.new.wire) (g.W.Wire.passed c.end_replaced.new.wire)
    (grew_on c.args.self.now.lines c.take_unless_full.new.self.lines c.dial_all.new.self.lines (g.W.Wire.passed c.args.wire.now) (g.W.Wire.passed c.take_unless_full.new.wire) (g.W.Wire.passed c.dial_all.new.wire)
    c.take_unless_full.ensures c.dial_all.ensures) c.end_replaced.ensures.grew
