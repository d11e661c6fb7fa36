use Rattle.std.proofs.Common.{◌≡◌, ◌-◌, ◌++◌, take, replicate}
use Rattle.game_def.proofs.building.amounts.Given as goal

abbrev pub invariant-loop-position : goal.invariant-loop-position
invariant-loop-position l = l.amounts ≡ take l.position l.values ++ replicate (10 - l.position) 0
