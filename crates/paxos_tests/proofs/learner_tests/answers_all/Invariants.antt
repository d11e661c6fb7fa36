use Rattle.std.proofs.Common.{◌≡◌}
use Rattle.paxos_tests.proofs.learner_tests.answers_all.Given as goal

abbrev pub invariant-loop-at : goal.invariant-loop-at
invariant-loop-at g l = l.learner.learned.nodes ≡ l.nodes
