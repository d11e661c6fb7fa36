use Rattle.hand_rank.specs.Best.{IsBestLeavingOut}
use Rattle.hand_rank.proofs.all_fives.best_of_all_fives.Given as goal

abbrev pub invariant-loop-left_out : goal.invariant-loop-left_out
invariant-loop-left_out l = IsBestLeavingOut l.cards 0 l.left_out l.best
