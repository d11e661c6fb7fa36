use Rattle.std.proofs.Common.{◌≡◌, ◌++◌}
use Rattle.serving.specs.Giving.{all_emptied}
use Rattle.serving.proofs.taking.empty_logs.Given as goal

-- the logs before this one are emptied
abbrev pub invariant-loop-node : goal.invariant-loop-node
invariant-loop-node g l = g.L.Links.passed l.links ≡ g.L.Links.passed l.initial.links ++ all_emptied l.node
