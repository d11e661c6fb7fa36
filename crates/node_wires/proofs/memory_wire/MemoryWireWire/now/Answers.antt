use Rattle.std.proofs.Common.{ap, sym, ◌∙◌}
use Rattle.node_wires.specs.Passages.{logged_in}
use Rattle.node_wires.proofs.Logged.{when_seen}
use Rattle.node_wires.proofs.Moments.{timely_seen}
use Rattle.node_wires.proofs.memory_wire.MemoryWireWire.now.Goals as goal

pub invariant_of-self : goal.invariant_of-self
invariant_of-self c = record {
  logged = c.args.self.now.logged ∙ sym (ap logged_in c.saw.ensures ∙ when_seen c.args.self.now.passed.items c.args.self.now.moment);
  timely = timely_seen c.args.self.now.moment c.args.self.now.passed.items c.saw.new.self.items c.saw.ensures c.args.self.now.timely;
}
