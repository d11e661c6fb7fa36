use Rattle.std.proofs.Common.{◌≡◌}
use Rattle.node_wires.proofs.tcp_wire.TcpWire.take_caller.Given as goal

abbrev pub invariant-loop : goal.invariant-loop
invariant-loop l = record {
  passed : l.self.passed ≡ l.initial.self.passed;
  lines : l.self.connections.lines.items ≡ l.initial.self.connections.lines.items;
  nodes : l.self.connections.nodes ≡ l.initial.self.connections.nodes;
}
