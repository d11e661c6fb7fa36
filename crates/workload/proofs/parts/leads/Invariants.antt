use Rattle.std.proofs.Common.{◌≡◌}
use Rattle.workload.proofs.parts.leads.Given as goal

abbrev pub invariant-loop : goal.invariant-loop
invariant-loop l = l.proposer.nodes ≡ 5
