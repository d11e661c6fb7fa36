use Rattle.std.proofs.Common.{◌≡◌}
use Rattle.betting.specs.Turns.{count_below}
use Rattle.betting.specs.TotalsInside.{seat_stays}
use Rattle.betting.proofs.totals.Totals.unfolded_count.Given as goal

abbrev pub invariant-loop-position : goal.invariant-loop-position
invariant-loop-position l = l.count ≡ count_below (seat_stays l.self) l.position
