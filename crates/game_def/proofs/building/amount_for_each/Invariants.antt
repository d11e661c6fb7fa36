use Rattle.std.proofs.Common.{◌≡◌, ◌-◌, ◌++◌, replicate}
use Rattle.game_def.proofs.building.amount_for_each.Given as goal

abbrev pub invariant-loop-position : goal.invariant-loop-position
invariant-loop-position l = l.amounts ≡ replicate l.position l.amount ++ replicate (10 - l.position) 0
