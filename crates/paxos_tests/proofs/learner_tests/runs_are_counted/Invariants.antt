use Rattle.std.proofs.Common.{◌≡◌}
use Rattle.paxos_tests.proofs.learner_tests.runs_are_counted.Given as goal

abbrev pub invariant-loop-call : goal.invariant-loop-call
invariant-loop-call g l = l.learner.learned.nodes ≡ 3
