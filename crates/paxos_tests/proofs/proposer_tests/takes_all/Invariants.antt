use Rattle.std.proofs.Common.{◌≡◌}
use Rattle.paxos_tests.proofs.proposer_tests.takes_all.Given as goal

abbrev pub invariant-loop-at : goal.invariant-loop-at
invariant-loop-at g l = l.proposer.nodes ≡ l.nodes
