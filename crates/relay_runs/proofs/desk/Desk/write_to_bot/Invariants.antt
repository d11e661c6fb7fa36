use Rattle.relay_runs.specs.Kept.{Keeps}
use Rattle.relay_runs.proofs.desk.Desk.write_to_bot.Given as goal

abbrev pub invariant-loop : goal.invariant-loop
invariant-loop g l = Keeps l.initial.self l.self (g.W.Wire.passed l.initial.wire) (g.W.Wire.passed l.wire)
