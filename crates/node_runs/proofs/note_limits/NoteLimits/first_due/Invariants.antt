use Rattle.std.proofs.Common.{◌≡◌, ℕ, ◌<◌, ◌≤◌, false}
use Rattle.node_runs.specs.NoteLimits.{has_due}
use Rattle.node_runs.proofs.note_limits.NoteLimits.first_due.Given as goal

abbrev pub invariant-loop-group : goal.invariant-loop-group
invariant-loop-group l = (group : ℕ) → l.from ≤ group → group < l.group → has_due l.self group ≡ false
