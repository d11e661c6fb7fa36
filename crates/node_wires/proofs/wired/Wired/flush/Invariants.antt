use Rattle.std.proofs.Common.{◌≡◌}
use Rattle.node_wires.proofs.wired.Wired.flush.Given as goal

abbrev pub invariant-loop : goal.invariant-loop
invariant-loop l = l.self.who ≡ l.fn.self.who
