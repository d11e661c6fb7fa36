use Rattle.std.proofs.Common.{◌≡◌}
use Rattle.workload.proofs.parts.slots_chosen.Given as goal

abbrev pub invariant-loop-slot : goal.invariant-loop-slot
invariant-loop-slot l = l.learner.learned.nodes ≡ 5

abbrev pub invariant-loop-node : goal.invariant-loop-node
invariant-loop-node l = l.learner.learned.nodes ≡ 5
