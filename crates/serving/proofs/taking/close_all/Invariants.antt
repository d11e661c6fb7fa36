use Rattle.std.proofs.Common.{◌≡◌}
use Rattle.serving.proofs.taking.close_all.Given as goal

abbrev pub invariant-loop-node : goal.invariant-loop-node
invariant-loop-node g l = g.L.Links.passed l.links ≡ g.L.Links.passed l.initial.links
