use Rattle.relay_runs.specs.Own.{IsNoneDialled}
use Rattle.relay_runs.proofs.queues.none_dialled.Given as goal

abbrev pub invariant-loop : goal.invariant-loop
invariant-loop l = IsNoneDialled l.dialled.items
