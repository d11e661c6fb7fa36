use Rattle.std.proofs.Common.{◌≡◌}
use Rattle.betting.specs.Turns.{count_below}
use Rattle.betting.specs.TotalsInside.{seat_lives}
use Rattle.betting.proofs.totals.Totals.live_count.Given as goal

abbrev pub invariant-loop-position : goal.invariant-loop-position
invariant-loop-position l = l.count ≡ count_below (seat_lives l.game l.self) l.position
