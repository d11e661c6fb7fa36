use Rattle.std.proofs.Common.{◌≤◌, arith}
use Rattle.node_wires.proofs.Moments.{timely_seen, timely_later}
use Rattle.test_kit.proofs.sim_wire.SimWireWire.now.Goals as goal

pub invariant_of-self : goal.invariant_of-self
invariant_of-self c =
    let within : c.args.self.now.seen ≤ c.max-self.result = grind (arith, c.max-self.ensures) in
    record {
      timely =
          timely_seen c.max-self.result c.args.self.now.passed.items c.saw.new.self.items c.saw.ensures
          (timely_later c.args.self.now.seen c.max-self.result c.args.self.now.passed.items within c.args.self.now.timely);
    }
