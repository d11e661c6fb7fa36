use Rattle.std.proofs.Common.{◌≡◌, ◌++◌, ℕ, List, length}
use Rattle.node_runs.specs.KeptLogs.{AreLogLines}
use Rattle.node_runs.proofs.kept_log.KeptLog.new.Given as goal

abbrev pub invariant-loop-more : goal.invariant-loop-more
invariant-loop-more l = (front : List ℕ) × AreLogLines front × (l.kept ≡ front ++ l.behind)

abbrev pub decreases-loop-more : goal.decreases-loop-more
decreases-loop-more l = length l.behind
