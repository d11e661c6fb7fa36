use Rattle.std.proofs.Common.{◌≡◌}
use Rattle.match_runs.specs.Seeds.{short_below}
use Rattle.match_runs.proofs.seeds.short_seeds.Given as goal

abbrev pub invariant-loop-node : goal.invariant-loop-node
invariant-loop-node l = l.nodes.items ≡ short_below l.config.sources l.node
