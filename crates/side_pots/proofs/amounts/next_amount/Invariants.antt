use Rattle.side_pots.proofs.NextAmount.{IsFoundAmong}
use Rattle.side_pots.proofs.amounts.next_amount.Given as goal

abbrev pub invariant-loop-position : goal.invariant-loop-position
invariant-loop-position l = IsFoundAmong l.spent l.folded l.below l.position l.next
