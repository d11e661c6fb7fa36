use Rattle.relay_runs.specs.Kept.{Stays}
use Rattle.relay_runs.proofs.server.RelayServer.answer.Given as goal

abbrev pub invariant-loop-place : goal.invariant-loop-place
invariant-loop-place l = Stays l.initial.self.desk l.self.desk
