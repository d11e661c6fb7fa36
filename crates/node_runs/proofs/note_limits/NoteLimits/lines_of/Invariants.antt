use Rattle.std.proofs.Common.{◌≡◌, ◌≤◌, take}
use Rattle.std.specs.List.{count_by}
use Rattle.node_runs.specs.NoteLimits.{is_of}
use Rattle.node_runs.proofs.note_limits.NoteLimits.lines_of.Given as goal

abbrev pub invariant-loop-one : goal.invariant-loop-one
invariant-loop-one l = (l.count ≡ count_by (is_of l.group) (take l.one-index l.one-items)) × (l.count ≤ l.one-index)
