use Rattle.std.proofs.Common.{◌+◌, arith}
use Rattle.node_wires.specs.declared.limits.TheConstants.{ASKERS}
use Rattle.node_status.proofs.Asking.{accepted_on, accepted_within}
use Rattle.node_status.proofs.askers.Askers.take_in_all.Goals as goal

pub returns-then-not-take_in : goal.returns-then-not-take_in
returns-then-not-take_in g c =
    accepted_within c.args.now (c.loop.counter + 1) ASKERS c.args.self.now.askers.items c.take_in.new.self.askers.items (g.W.Wire.passed c.args.wire.now) (g.W.Wire.passed c.take_in.new.wire) (omega arith)
    (accepted_on c.args.now c.loop.counter c.args.self.now.askers.items c.loop.self.askers.items c.take_in.new.self.askers.items (g.W.Wire.passed c.args.wire.now) (g.W.Wire.passed c.loop.wire) (g.W.Wire.passed c.take_in.new.wire)
    c.loop.invariant c.take_in.ensures)
