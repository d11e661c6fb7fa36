use Rattle.std.proofs.Common.{◌≡◌, ◌≤◌}
use Rattle.node_wires.specs.Places.{strangers_below}
use Rattle.node_wires.proofs.connections.Connections.strangers.Given as goal

abbrev pub invariant-loop-place : goal.invariant-loop-place
invariant-loop-place l = record {
  counted : l.count ≡ strangers_below l.self.lines.items l.comer l.address l.place;
  most : l.count ≤ l.place;
}
