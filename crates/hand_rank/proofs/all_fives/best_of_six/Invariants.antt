use Rattle.hand_rank.specs.Best.{IsBestLeavingOut}
use Rattle.hand_rank.proofs.all_fives.best_of_six.Given as goal

abbrev pub invariant-loop-left_out : goal.invariant-loop-left_out
invariant-loop-left_out l = IsBestLeavingOut l.cards l.from l.left_out l.best
