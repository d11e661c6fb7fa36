use Rattle.relay_runs.specs.Kept.{Keeps}
use Rattle.relay_runs.proofs.server.RelayServer.hear_nodes.Given as goal

abbrev pub invariant-loop-node : goal.invariant-loop-node
invariant-loop-node g l = Keeps l.initial.self.desk l.self.desk (g.W.Wire.passed l.initial.wire) (g.W.Wire.passed l.wire)
