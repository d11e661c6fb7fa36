use Rattle.relay_runs.specs.Said.{AreEmpty}
use Rattle.relay_runs.proofs.queues.empty_queues.Given as goal

abbrev pub invariant-loop : goal.invariant-loop
invariant-loop l = AreEmpty l.queues.items
