use Rattle.relay_runs.specs.Kept.{Keeps}
use Rattle.relay_runs.proofs.server.RelayServer.hear_bot.Given as goal

abbrev pub invariant-loop : goal.invariant-loop
invariant-loop g l = Keeps l.initial.self.desk l.self.desk (g.W.Wire.passed l.initial.wire) (g.W.Wire.passed l.wire)
