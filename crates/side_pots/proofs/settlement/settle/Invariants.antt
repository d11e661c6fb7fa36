use Rattle.std.proofs.Common.{◌-◌, max}
use Rattle.std.specs.List.{fold}
use Rattle.side_pots.proofs.Settled.{IsSettledUpto}
use Rattle.side_pots.proofs.settlement.settle.Given as goal

abbrev pub invariant-loop-top : goal.invariant-loop-top
invariant-loop-top l = IsSettledUpto l.spent l.folded l.values l.won.items l.below

abbrev pub decreases-loop-top : goal.decreases-loop-top
decreases-loop-top l = fold max 0 l.spent - l.below
