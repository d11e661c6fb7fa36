use Rattle.std.proofs.Common.{◌≡◌, map}
use Rattle.std.specs.List.{range_with_len}
use Rattle.betting.specs.Betting.{history}
use Rattle.betting.specs.Turns.{folded}
use Rattle.luck.proofs.stakes.folds.Given as goal

abbrev pub invariant-loop-position : goal.invariant-loop-position
invariant-loop-position l = l.folds.items ≡ map (folded (history l.play)) (range_with_len 0 l.position)
