use Rattle.relay_runs.specs.Kept.{Stays}
use Rattle.relay_runs.proofs.server.RelayServer.take_lines.Given as goal

abbrev pub invariant-loop : goal.invariant-loop
invariant-loop l = Stays l.initial.self.desk l.self.desk
