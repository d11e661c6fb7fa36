use Rattle.std.proofs.Common.{◌≡◌}
use Rattle.workload.proofs.parts.ballots_led.Given as goal

abbrev pub invariant-loop-round : goal.invariant-loop-round
invariant-loop-round l = l.proposer.nodes ≡ 5
